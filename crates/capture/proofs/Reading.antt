-- A line that comes in pieces.
use Rattle.std.proofs.Common.{◌≡◌, ℕ, zero, suc, ◌-◌, ◌<◌, ◌≤◌, List, [], ◌∷◌, ◌++◌, length, take, drop, map, Bool, true, false, not, eqb, MatchBool, Option, Some, None, IfSome, sym, refl, ap, subst, ◌∙◌, ⊎_elim, arith, append-nil, length-append, take_all, take-append-drop, eq-eqb, ne_eqb, le_refl}
use Rattle.std.proofs.lemmas.List.{length-take}
use Rattle.std.proofs.lemmas.Bool.{cases_eq}
use Rattle.std.specs.Io.{StartsWith}
use Rattle.std.specs.Io.KnownBytes.{Keeps, Consumes}
use Rattle.std.proofs.KnownBytes.{Consumes-nil, Consumes-trans, Consumes-kept}
use Rattle.std.specs.Io.BufRead.{drop_through, DropsConsumable}
use Rattle.capture.specs.declared.buffer.LineBuffer.{LineBuffer}
use Rattle.capture.specs.Begun.{IsBegun, IsUnended}
use Rattle.capture.specs.Held.{held, if_there}
use Rattle.capture.specs.Splits.{before_end, after_end, used_of}
use Rattle.capture.specs.Lines.{passed_on, next_of, onto_first, whole_lines, lines_of}

-- what the line will be, where so much of it has come and these bytes are to come
abbrev pub ahead : List ℕ → List ℕ → Option (List ℕ)
ahead [] ys = next_of ys
ahead (b ∷ bs) ys = Some (take 255 ((b ∷ bs) ++ before_end ys))

-- where there is a byte there is a line
pub ahead-some : (h ys : List ℕ) → 0 < length (h ++ ys) → ahead h ys ≡ Some (take 255 (h ++ before_end ys))
ahead-some [] [] some = absurd (omega (arith, some))
ahead-some [] (y ∷ ys) some = refl
ahead-some (b ∷ bs) ys some = refl

-- no byte is to come
pub ahead-end : (h : List ℕ) → length h ≤ 255 → 0 < length h → ahead h [] ≡ Some h
ahead-end [] fits some = absurd (omega arith)
ahead-end (b ∷ bs) fits some = ap Some (ap (take 255) (append-nil (b ∷ bs)) ∙ take_all 255 (b ∷ bs) fits)

pub ahead-none : (h : List ℕ) → length h ≡ 0 → ahead h [] ≡ None
ahead-none [] none = refl
ahead-none (b ∷ bs) none = absurd (omega arith)

-- what of a front stays is all that counts of it
pub take-front : (n : ℕ) (xs ys : List ℕ) → take n (take n xs ++ ys) ≡ take n (xs ++ ys)
take-front zero xs ys = refl
take-front (suc n) [] ys = refl
take-front (suc n) (x ∷ xs) ys = ap (λ zs. x ∷ zs) (take-front n xs ys)

-- a piece without a line end
pub before-whole : (piece ys : List ℕ) → after_end piece ≡ None → before_end (piece ++ ys) ≡ piece ++ before_end ys
before-whole [] ys none = refl
before-whole (x ∷ xs) ys none =
    ⊎_elim
    (λ (e : x ≡ 10). let off = eq-eqb x 10 e in absurd (let f : Some xs ≡ None = rw off at none in cc))
    (λ e. let off = ne_eqb x 10 e in rw off (ap (λ zs. x ∷ zs) (before-whole xs ys (rw off at none))))
    (cases_eq x 10)

pub through-whole : (piece ys : List ℕ) → after_end piece ≡ None → drop_through 10 (piece ++ ys) ≡ drop_through 10 ys
through-whole [] ys none = refl
through-whole (x ∷ xs) ys none =
    ⊎_elim
    (λ (e : x ≡ 10). let off = eq-eqb x 10 e in absurd (let f : Some xs ≡ None = rw off at none in cc))
    (λ e. let off = ne_eqb x 10 e in rw off (through-whole xs ys (rw off at none)))
    (cases_eq x 10)

-- a piece with one
pub before-cut : (piece ys r : List ℕ) → after_end piece ≡ Some r → before_end (piece ++ ys) ≡ before_end piece
before-cut [] ys r some = cc
before-cut (x ∷ xs) ys r some =
    ⊎_elim
    (λ (e : x ≡ 10). let off = eq-eqb x 10 e in rw off refl)
    (λ e. let off = ne_eqb x 10 e in rw off (ap (λ zs. x ∷ zs) (before-cut xs ys r (rw off at some))))
    (cases_eq x 10)

pub shorter : (piece r : List ℕ) → after_end piece ≡ Some r → length r < length piece
shorter [] r some = cc
shorter (x ∷ xs) r some =
    ⊎_elim
    (λ (e : x ≡ 10). let off = eq-eqb x 10 e in let same : xs ≡ r = (let f : Some xs ≡ Some r = rw off at some in cc) in omega (arith, ap length same))
    (λ e. let off = ne_eqb x 10 e in omega (arith, shorter xs r (rw off at some)))
    (cases_eq x 10)

drop-later : (n : ℕ) (x : ℕ) (xs : List ℕ) → 0 < n → drop n (x ∷ xs) ≡ drop (n - 1) xs
drop-later zero x xs some = absurd (omega arith)
drop-later (suc n) x xs some = let left : n ≡ suc n - 1 = omega arith in ap (λ m. drop m xs) left

pub through-cut : (piece ys r : List ℕ) → after_end piece ≡ Some r → drop (length piece - length r) (piece ++ ys) ≡ drop_through 10 (piece ++ ys)
through-cut [] ys r some = cc
through-cut (x ∷ xs) ys r some =
    ⊎_elim
    (λ (e : x ≡ 10).
    let off = eq-eqb x 10 e in
    let same : xs ≡ r = (let f : Some xs ≡ Some r = rw off at some in cc) in
    let one : suc (length xs) - length r ≡ 1 = omega (arith, ap length same) in
    rw (off, one) refl)
    (λ e.
    let off = ne_eqb x 10 e in
    let less = shorter xs r (rw off at some) in
    let left : suc (length xs) - length r - 1 ≡ length xs - length r = omega arith in
    let more : 0 < suc (length xs) - length r = omega (arith, less) in
    rw off (drop-later (suc (length xs) - length r) x (xs ++ ys) more ∙ ap (λ n. drop n (xs ++ ys)) left ∙ through-cut xs ys r (rw off at some)))
    (cases_eq x 10)

-- What was shown of the input is a piece of it, and what follows is the rest.

parts : (xs piece : List ℕ) → StartsWith xs piece → xs ≡ piece ++ drop (length piece) xs
parts xs piece shown =
    sym (take-append-drop (length piece) xs) ∙ ap (λ t. t ++ drop (length piece) xs) shown

-- with one, it ends there
pub ends-there : (h xs piece h' : List ℕ) (used : ℕ) → StartsWith xs piece → Some used ≡ used_of piece → h' ≡ take 255 (h ++ before_end piece)
    → (Some h' ≡ ahead h xs) × (drop used xs ≡ drop_through 10 xs) × (used ≤ length piece)
ends-there h xs piece h' used shown found e = by-end (after_end piece) refl
  where
    by-end : (o : Option (List ℕ)) → after_end piece ≡ o → (Some h' ≡ ahead h xs) × (drop used xs ≡ drop_through 10 xs) × (used ≤ length piece)
    by-end None is = absurd (let f : Some used ≡ None = rw is at found in cc)
    by-end (Some r) is =
        let rest = drop (length piece) xs in
        let count : used ≡ length piece - length r = (let f : Some used ≡ Some (length piece - length r) = rw is at found in cc) in
        let split = parts xs piece shown in
        let less = shorter piece r is in
        let there : 0 < length (h ++ xs) = omega (arith, length-append h xs, ap length split, length-append piece rest, less) in (
          ap Some (e ∙ ap (λ t. take 255 (h ++ t)) (sym (before-cut piece rest r is) ∙ ap before_end (sym split))) ∙ sym (ahead-some h xs there),
          ap (λ n. drop n xs) count ∙ ap (drop (length piece - length r)) split ∙ through-cut piece rest r is ∙ ap (drop_through 10) (sym split),
          omega (arith, count),
        )

pub held-fits : (b : LineBuffer) → length (held b) ≤ 255
held-fits b = omega (arith, length-take b.len b.bytes, b.inside)

-- no more bytes are to come, and the line is what came, unless that is nothing
pub ended : (b : LineBuffer) → if_there (not (eqb (length (held b)) 0)) b ≡ ahead (held b) []
ended b =
    ⊎_elim
    (λ e. let off = eq-eqb (length (held b)) 0 e in rw off (sym (ahead-none (held b) e)))
    (λ e. let off = ne_eqb (length (held b)) 0 e in rw off (sym (ahead-end (held b) (held-fits b) (omega (arith, e)))))
    (cases_eq (length (held b)) 0)

-- Of the bytes to come, where they are known.

pub known-weaker : (o : Option (List ℕ)) (P Q : List ℕ → Type 0) → ((xs : List ℕ) → P xs → Q xs) → IfSome o P → IfSome o Q
known-weaker None P Q f h = h
known-weaker (Some xs) P Q f h = f xs h

pub known-at : (o : Option (List ℕ)) (xs : List ℕ) (P : List ℕ → Type 0) → o ≡ Some xs → IfSome o P → P xs
known-at o xs P e = subst (λ q. IfSome q P) e

pub kept-at : (a b : Option (List ℕ)) (xs : List ℕ) → a ≡ Some xs → Keeps a b → b ≡ Some xs
kept-at a None xs e kept = absurd (subst (λ q. Keeps q None) e kept)
kept-at a (Some ys) xs e kept = ap Some (subst (λ q. Keeps q (Some ys)) e kept)

-- what holds of the bytes that stayed
pub kept-known : (a b : Option (List ℕ)) (P : List ℕ → Type 0) → Keeps a b → IfSome b P → IfSome a P
kept-known None b P kept h = tt
kept-known (Some xs) None P kept h = absurd kept
kept-known (Some xs) (Some ys) P kept h = subst P kept h

-- what is left once some of what was shown is used
pub used-at : (a b c : Option (List ℕ)) (limit : Option ℕ) (xs : List ℕ) (n used : ℕ) → a ≡ Some xs → Keeps a b → IfSome a (λ _. IfSome limit (λ k. n ≤ k)) → used ≤ n
    → DropsConsumable b c limit used → c ≡ Some (drop used xs)
used-at a b c limit xs n used e kept fits within drops =
    known-at b xs (λ ys. IfSome limit (λ k. used ≤ k) → c ≡ Some (drop used ys)) (kept-at a b xs e kept) drops
    (room limit (known-at a xs (λ _. IfSome limit (λ k. n ≤ k)) e fits))
  where
    room : (o : Option ℕ) → IfSome o (λ k. n ≤ k) → IfSome o (λ k. used ≤ k)
    room None h = tt
    room (Some k) h = omega (arith, h, within)

-- all that was shown is used
pub used-whole : (a b c : Option (List ℕ)) (limit : Option ℕ) (piece : List ℕ) → IfSome a (λ xs. StartsWith xs piece)
    → Keeps a b → IfSome a (λ _. IfSome limit (λ k. length piece ≤ k)) → DropsConsumable b c limit (length piece) → Consumes a c piece
used-whole None b c limit piece shown kept fits drops = tt
used-whole (Some xs) b c limit piece shown kept fits drops =
    let left = used-at (Some xs) b c limit xs (length piece) (length piece) refl kept fits (le_refl (length piece)) drops in
    subst (λ q. Consumes (Some xs) q piece) (sym left) (parts xs piece shown)

-- Of a line that is not read to its end.

pub unended-both : (xs ys : List ℕ) → IsUnended xs → IsUnended ys → IsUnended (xs ++ ys)
unended-both [] ys none also = also
unended-both (x ∷ xs) ys none also =
    ⊎_elim
    (λ (e : x ≡ 10). let off = eq-eqb x 10 e in absurd (let f : Some xs ≡ None = rw off at none in cc))
    (λ e. let off = ne_eqb x 10 e in rw off (unended-both xs ys (rw off at none) also))
    (cases_eq x 10)

pub begun-first : (was : Option (List ℕ)) (h : List ℕ) → h ≡ [] → IsBegun was was h
begun-first was h none = record { read = []; consumed = Consumes-nil was; unended = refl; kept = none }

-- no line ends in the piece that is read
pub begun-on : (was here is : Option (List ℕ)) (h piece h' : List ℕ) → IsBegun was here h → Consumes here is piece → IsUnended piece
    → h' ≡ take 255 (h ++ before_end piece) → IsBegun was is h'
begun-on was here is h piece h' b used none e =
    let whole : before_end piece ≡ piece = ap before_end (sym (append-nil piece)) ∙ before-whole piece [] none ∙ append-nil piece in record {
      read = b.read ++ piece;
      consumed = Consumes-trans was here is b.read piece b.consumed used;
      unended = unended-both b.read piece b.unended none;
      kept =
          e ∙ ap (λ p. take 255 (h ++ p)) whole ∙ ap (λ l. take 255 (l ++ piece)) b.kept
          ∙ take-front 255 b.read piece;
    }

pub begun-kept : (was here is : Option (List ℕ)) (h : List ℕ) → IsBegun was here h → Keeps here is → IsBegun was is h
begun-kept was here is h b kept = record {
  read = b.read;
  consumed = Consumes-kept was here is b.read b.consumed kept;
  unended = b.unended;
  kept = b.kept;
}

begun-ahead : (read ys : List ℕ) → IsUnended read → ahead (take 255 read) ys ≡ next_of (read ++ ys)
begun-ahead [] ys none = refl
begun-ahead (b ∷ bs) ys none =
    ap Some (take-front 255 (b ∷ bs) (before_end ys) ∙ ap (take 255) (sym (before-whole (b ∷ bs) ys none)))

-- what the line will be, and what will stand behind it, is what it was at first
pub begun-known : (was here : Option (List ℕ)) (h : List ℕ) → IsBegun was here h
    → IfSome was (λ xs. (ys : List ℕ) × (here ≡ Some ys) × (ahead h ys ≡ next_of xs) × (drop_through 10 ys ≡ drop_through 10 xs))
begun-known None here h b = tt
begun-known (Some xs) None h b = absurd b.consumed
begun-known (Some xs) (Some ys) h b = (
  ys,
  refl,
  ap (λ l. ahead l ys) b.kept ∙ begun-ahead b.read ys b.unended ∙ ap next_of (sym b.consumed),
  sym (ap (drop_through 10) b.consumed ∙ through-whole b.read ys b.unended),
)

-- Of all lines.

-- the first line, and those of what stands behind it
pub whole-first : (x : ℕ) (xs : List ℕ) → whole_lines (x ∷ xs) ≡ before_end (x ∷ xs) ∷ whole_lines (drop_through 10 (x ∷ xs))
whole-first x [] = ⊎_elim (λ e. let off = eq-eqb x 10 e in rw off refl) (λ e. let off = ne_eqb x 10 e in rw off refl) (cases_eq x 10)
whole-first x (y ∷ ys) =
    ⊎_elim
    (λ e. let off = eq-eqb x 10 e in rw off refl)
    (λ e. let off = ne_eqb x 10 e in rw off (ap (onto_first x) (whole-first y ys)))
    (cases_eq x 10)

pub lines-first : (xs : List ℕ) (there : Bool) (b : LineBuffer) → if_there there b ≡ next_of xs
    → MatchBool there (lines_of xs ≡ held b ∷ lines_of (drop_through 10 xs)) (lines_of xs ≡ [])
lines-first [] false b is = refl
lines-first [] true b is = cc
lines-first (x ∷ xs) false b is = cc
lines-first (x ∷ xs) true b is =
    let same : held b ≡ passed_on (before_end (x ∷ xs)) = cc in
    ap (map passed_on) (whole-first x xs) ∙ ap (λ line. line ∷ lines_of (drop_through 10 (x ∷ xs))) (sym same)

-- A text keeps its rule byte by byte just where it is a name and then only spaces.
use Rattle.std.proofs.Common.{◌≡◌, ℕ, zero, suc, ◌+◌, ◌-◌, ◌<◌, ◌≤◌, true, false, not, eqb, leb, ◌⊎◌, List, [], ◌∷◌, ◌++◌, length, get_or, take, replicate, sym, refl, ap, ◌∙◌, inl, inr, ⊎_elim, append_assoc, append-nil, add-one, arith, lit<}
use Rattle.std.specs.Int.Digits.{number_from_digits as number_of}
use Rattle.std.specs.List.{AllByRecursion as All}
use Rattle.std.proofs.ByRecursion.{All-get_or, All-push, All-append, All-weaker}
use Rattle.std.proofs.lemmas.List.{take_more, take_all, length-append, length-replicate, length-take-le, get_or_append_left, get_or-append_right, get_or-replicate, replicate_more}
use Rattle.std.proofs.lemmas.Bool.{cases_Bool, cases_lt, eqb-true, eq-eqb, ne_eqb, leb-true, le-leb, and_parts, both_ways, not-true}
use Rattle.layout.specs.declared.class.Class.{Class}
use Rattle.layout.specs.declared.class.Class.TheVariants.{Graphic, Letter}
use Rattle.layout.specs.Bytes.{is_of}
use Rattle.layout.specs.Slots.{text, after_space, keeps, Passes, SpellsText}

-- a byte of a class is no space, and below 127
pub class-bound : (k : Class) (x : ℕ) → is_of k x ≡ true → (x ≡ 32 → ⊥) × (x < 127)
class-bound Graphic x h = let p = and_parts (leb 33 x) (leb x 126) h in let a = leb-true 33 x p.0 in let b = leb-true x 126 p.1 in ((λ e. omega arith), omega arith)
class-bound Letter x h = let p = and_parts (leb 65 x) (leb x 90) h in let a = leb-true 65 x p.0 in let b = leb-true x 90 p.1 in ((λ e. omega arith), omega arith)

module _ (k : Class) (least w whole : ℕ) where
  -- from the split
  module _ (name : List ℕ) (spaces : ℕ) (inside : All (λ x. is_of k x ≡ true) name) (enough : least ≤ length name) where
    in-name : (j : ℕ) → j < length name → is_of k (get_or (name ++ replicate spaces 32) j 0) ≡ true
    in-name j lt = rw (get_or_append_left name (replicate spaces 32) 0 j lt) (All-get_or (λ x. is_of k x ≡ true) name j 0 lt inside)

    no-space : (j : ℕ) → j < length name → eqb (get_or (name ++ replicate spaces 32) j 0) 32 ≡ false
    no-space j lt = ne_eqb _ 32 (class-bound k _ (in-name j lt)).0

    fresh : (j : ℕ) → j < length name → after_space (name ++ replicate spaces 32) j ≡ false
    fresh zero lt = refl
    fresh (suc j) lt = no-space j (omega arith)

    padded : (j : ℕ) → length name ≤ j → j < length name + spaces → get_or (name ++ replicate spaces 32) j 0 ≡ 32
    padded j ge lt = get_or-append_right name (replicate spaces 32) (length name) j 0 refl ge ∙ get_or-replicate spaces (j - length name) 32 0 (omega arith)

    pub padded-keeps : (j : ℕ) → j < length name + spaces → keeps (text k least w whole) (name ++ replicate spaces 32) j ≡ true
    padded-keeps j lt =
        ⊎_elim
        (λ in'. rw (no-space j in', in-name j in', fresh j in'))
        (λ past. let here = padded j past lt in rw here (le-leb least j (omega arith)))
        (cases_lt j (length name))

  -- to the split: of the first i bytes
  module _ (p : List ℕ) (passes : Passes (keeps (text k least w whole) p) (length p)) where
    pub record Split (i : ℕ) : Type 0 where
      pub name : List ℕ
      pub spaces : ℕ
      pub split : take i p ≡ name ++ replicate spaces 32
      pub inside : All (λ x. is_of k x ≡ true) name
      pub ends : (spaces ≡ 0) ⊎ ((least ≤ length name) × (after_space p i ≡ true))

    long : (i : ℕ) (s : Split i) → i ≤ length p → i ≡ length s.name + s.spaces
    long i s le =
        sym (length-take-le i p le) ∙ ap length s.split ∙ length-append s.name (replicate s.spaces 32) ∙ ap (λ n. length s.name + n) (length-replicate s.spaces 32)

    -- a space more
    spaced : (i : ℕ) → i < length p → get_or p i 0 ≡ 32 → least ≤ i → Split i → Split (i + 1)
    spaced i lt here ok s = record {
      name = s.name;
      spaces = s.spaces + 1;
      split = take_more p i 0 lt ∙ rw (here, s.split, append_assoc, replicate_more);
      inside = s.inside;
      ends = inr (⊎_elim (λ none. let size = long i s (omega arith) in omega arith) (λ e. e.0) s.ends, rw add-one (eq-eqb _ 32 here));
    }

    -- a byte of the class more
    named : (i : ℕ) → i < length p → is_of k (get_or p i 0) ≡ true → after_space p i ≡ false → Split i → Split (i + 1)
    named i lt here clear s =
        let none : s.spaces ≡ 0 = ⊎_elim (λ e. e) (λ e. absurd (both_ways (after_space p i) clear e.1)) s.ends in
        let front : take i p ≡ s.name = s.split ∙ rw none (append-nil s.name) in
        record {
          name = s.name ++ (get_or p i 0 ∷ []);
          spaces = 0;
          split = take_more p i 0 lt ∙ rw (front, append-nil);
          inside = All-push (λ x. is_of k x ≡ true) s.name (get_or p i 0) s.inside here;
          ends = inl refl;
        }

    more : (i : ℕ) → i < length p → Split i → Split (i + 1)
    more i lt s =
        ⊎_elim
        (λ e. spaced i lt (eqb-true _ 32 e) (leb-true least i (rw e at (passes i lt))) s)
        (λ e. let both = and_parts (is_of k (get_or p i 0)) (not (after_space p i)) (rw e at (passes i lt)) in named i lt both.0 (not-true _ both.1) s)
        (cases_Bool (eqb (get_or p i 0) 32))

    splits : (i : ℕ) → i ≤ length p → Split i
    splits zero le = record { name = []; spaces = 0; split = refl; inside = tt; ends = inl refl }
    splits (suc i) le = rw (← add-one) (more i (omega arith) (splits i (omega arith)))

    pub split-of : length p ≡ w → least ≤ w → SpellsText k least w whole p (number_of 256 (p ++ replicate (whole - w) 32))
    split-of size enough =
        let s = splits (length p) (omega arith) in
        let count = long (length p) s (omega arith) in
        record {
          name = s.name;
          spaces = s.spaces;
          split = sym (take_all (length p) p (omega arith)) ∙ s.split;
          inside = s.inside;
          enough = ⊎_elim (λ none. omega arith) (λ e. e.0) s.ends;
          size = size;
          value = refl;
        }

-- such bytes are digits of base 256
all_replicate : (n : ℕ) → All (λ x. x < 256) (replicate n 32)
all_replicate zero = tt
all_replicate (suc n) = (lit< tt, all_replicate n)

pub under-padded : (k : Class) (name : List ℕ) (spaces : ℕ) → All (λ x. is_of k x ≡ true) name → All (λ x. x < 256) (name ++ replicate spaces 32)
under-padded k name spaces inside =
    All-append (λ x. x < 256) name (replicate spaces 32)
    (All-weaker (λ x. is_of k x ≡ true) (λ x. x < 256) (λ x h. let b = (class-bound k x h).1 in omega arith) name inside) (all_replicate spaces)

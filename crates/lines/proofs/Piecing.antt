-- Lines that are listed one after the other.
use Rattle.std.proofs.Common.{◌≡◌, ℕ, List, [], ◌∷◌, ◌++◌, length, take, Option, Some, None, IfSome, sym, refl, ap, subst, ◌∙◌, append_assoc, append-nil}
use Rattle.std.specs.Io.KnownBytes.{Appends, Consumes, Keeps}
use Rattle.std.proofs.KnownBytes.{Appends-kept, Appends-nil, Appends-trans}
use Rattle.capture.specs.Begun.{IsUnended}
use Rattle.capture.specs.Counts.{more}
use Rattle.capture.specs.Lines.{lines_of}
use Rattle.capture.specs.Splits.{before_end, after_end}
use Rattle.messages.specs.Telling.{line_message}
use Rattle.lines.specs.declared.totals.Totals.{Totals}
use Rattle.lines.specs.Counted.{IsEven, after, counted, none_counted, totals_told}
use Rattle.lines.specs.Listings.{form_of, is_read, is_rewritten, lines_text, listing, numbered, times, totals_line}
use Rattle.lines.specs.Pieces.{IsListed, IsStopped}
use Rattle.lines.proofs.Counting.{read-counted, rewritten-counted, totals-told}
use Rattle.capture.proofs.Cutting.{cut-both, cut-first, cut-none}

-- some lines and then others
after-join : (xs ys : List (List ℕ)) (t : Totals) → after (xs ++ ys) t ≡ after ys (after xs t)
after-join [] ys t = refl
after-join (x ∷ xs) ys t = after-join xs ys (counted x t)

listing-join : (xs ys : List (List ℕ)) (t : Totals) → listing t.lines (xs ++ ys) ≡ listing t.lines xs ++ listing (after xs t).lines ys
listing-join [] ys t = refl
listing-join (x ∷ xs) ys t =
    let said = numbered (more t.lines) (form_of (line_message x)) in
    ap (λ text. said ++ text) (listing-join xs ys (counted x t)) ∙ sym (append_assoc said (listing (more t.lines) xs) (listing (after xs (counted x t)).lines ys))

-- A piece.

-- no line ends in it
pub listed-none : (begun piece : List ℕ) (t : Totals) (was : Option (List ℕ)) → IsUnended begun → IsUnended piece → IsListed begun piece (take 255 (begun ++ before_end piece)) t t was was
listed-none begun piece t was none also = record {
  lines = [];
  appends = Appends-nil was;
  counted = refl;
  cut = cut-none begun piece none also;
}

-- one ends there, and what stands behind it is listed
pub listed-line : (begun piece next left line : List ℕ) (t m u : Totals) (was then is : Option (List ℕ))
    → IsUnended begun → after_end piece ≡ Some next → line ≡ take 255 (begun ++ before_end piece)
    → m ≡ counted line t → Appends was then (listing t.lines (line ∷ [])) → IsListed [] next left m u then is → IsListed begun piece left t u was is
listed-line begun piece next left line t m u was then is none ends is-line counts says others =
    let behind : Appends then is (listing (counted line t).lines others.lines) =
    subst (λ n. Appends then is (listing n.lines others.lines)) counts others.appends in record {
      lines = line ∷ others.lines;
      appends = subst (Appends was is) (sym (listing-join (line ∷ []) others.lines t)) (Appends-trans was then is _ _ says behind);
      counted = others.counted ∙ ap (after others.lines) counts;
      cut = cut-first begun piece next left line others.lines none ends is-line others.cut;
    }

-- the writer fails at the line that ends there
pub stopped-line : (begun piece next left line : List ℕ) (t u : Totals) → IsUnended begun → after_end piece ≡ Some next → line ≡ take 255 (begun ++ before_end piece)
    → left ≡ [] → u ≡ counted line t → IsStopped begun piece left t u
stopped-line begun piece next left line t u none ends is-line empty counts = record {
  listed = [];
  line = line;
  behind = next;
  none = empty;
  counted = counts;
  cut = cut-first begun piece next next line [] none ends is-line (λ rest. refl);
}

-- or at a later one
pub stopped-later : (begun piece next left line : List ℕ) (t m u : Totals) → IsUnended begun → after_end piece ≡ Some next → line ≡ take 255 (begun ++ before_end piece)
    → m ≡ counted line t → IsStopped [] next left m u → IsStopped begun piece left t u
stopped-later begun piece next left line t m u none ends is-line counts later = record {
  listed = line ∷ later.listed;
  line = later.line;
  behind = later.behind;
  none = later.none;
  counted = later.counted ∙ ap (after (later.listed ++ (later.line ∷ []))) counts;
  cut = cut-first begun piece next later.behind line (later.listed ++ (later.line ∷ [])) none ends is-line later.cut;
}

-- a piece and then another, and what is printed of them is written out
pub listed-both : (begun piece between next left : List ℕ) (t m u : Totals) (was then late is : Option (List ℕ))
    → IsListed begun piece between t m was then → IsListed between next left m u then late → Keeps late is → IsListed begun (piece ++ next) left t u was is
listed-both begun piece between next left t m u was then late is first second kept =
    let behind : Appends then late (listing (after first.lines t).lines second.lines) =
    subst (λ n. Appends then late (listing n.lines second.lines)) first.counted second.appends in record {
      lines = first.lines ++ second.lines;
      appends =
          Appends-kept was late is _
          (subst (Appends was late) (sym (listing-join first.lines second.lines t)) (Appends-trans was then late _ _ first.appends behind)) kept;
      counted = second.counted ∙ ap (after second.lines) first.counted ∙ sym (after-join first.lines second.lines t);
      cut = cut-both begun piece between next left first.lines second.lines first.cut second.cut;
    }

-- The whole input.

-- these bytes were read, and they are all: none came with the last read
module _ (before coming : Option (List ℕ)) (read piece : List ℕ) (used : Consumes before coming read)
    (end : IfSome coming (λ rest. length piece ≡ 0 → rest ≡ [])) (none : length piece ≡ 0) where
  all-read : (P : List ℕ → Type 0) → P read → IfSome before P
  all-read P = by-cases before coming used end
    where
      by-cases : (a b : Option (List ℕ)) → Consumes a b read → IfSome b (λ rest. length piece ≡ 0 → rest ≡ []) → P read → IfSome a P
      by-cases None b used end holds = tt
      by-cases (Some bytes) None used end holds = absurd used
      by-cases (Some bytes) (Some rest) used end holds =
          subst P (sym (used ∙ ap (λ r. read ++ r) (end none) ∙ append-nil read)) holds

  module _ (left : List ℕ) (t u : Totals) (was then : Option (List ℕ)) (listed : IsListed [] read left none_counted t was then) (counts : u ≡ after (lines_of left) t) where
    lines-read : lines_of read ≡ listed.lines ++ lines_of left
    lines-read =
        ap lines_of (sym (append-nil read)) ∙ listed.cut [] ∙ ap (λ line. listed.lines ++ lines_of line) (append-nil left)

    totals-read : u ≡ after (lines_of read) none_counted
    totals-read =
        counts ∙ ap (after (lines_of left)) listed.counted ∙ sym (after-join listed.lines (lines_of left) none_counted)
        ∙ ap (λ lines. after lines none_counted) (sym lines-read)

    -- their lines are listed, and then the totals
    pub all-listed : (is : Option (List ℕ)) → Appends then is (listing t.lines (lines_of left) ++ totals_told u) → IfSome before (λ bytes. Appends was is (lines_text bytes))
    all-listed is ends =
        let last = listing t.lines (lines_of left) in
        let first : listing 0 listed.lines ++ last ≡ listing 0 (lines_of read) =
        ap (λ n. listing 0 listed.lines ++ listing n.lines (lines_of left)) listed.counted
        ∙ sym (listing-join listed.lines (lines_of left) none_counted) ∙ ap (listing 0) (sym lines-read) in
        let told : totals_told u ≡ totals_line (lines_of read) = ap totals_told totals-read ∙ totals-told (lines_of read) in
        all-read (λ bytes. Appends was is (lines_text bytes))
        (subst (Appends was is)
        (sym (append_assoc (listing 0 listed.lines) last (totals_told u)) ∙ (λ i. first i ++ told i))
        (Appends-trans was then is _ _ listed.appends ends))

    -- as many are rewritten as are read
    pub all-even : IsEven u → IfSome before (λ bytes. times is_rewritten (lines_of bytes) ≡ times is_read (lines_of bytes))
    all-even even =
        all-read (λ bytes. times is_rewritten (lines_of bytes) ≡ times is_read (lines_of bytes))
        (sym (rewritten-counted (lines_of read)) ∙ ap (λ n. n.rewritten) (sym totals-read) ∙ even
        ∙ ap (λ n. n.read) totals-read ∙ read-counted (lines_of read))

-- One step of closing a hole, and the end of it.
use Rattle.std.proofs.Common.{◌≡◌, ℕ, ◌<◌, ◌≤◌, List, length, set, sym, refl, ◌∙◌, arith, length-set, get_or-set_other, get_or-set_same, Some, None, Option}
use Rattle.store.specs.Lists.{sorted}
use Rattle.store.proofs.Sorting.{rising-sorted}
use Rattle.hashed_store.specs.Rounds.{offset}
use Rattle.hashed_store.specs.Slots.{held, slot_at, strayed}
use Rattle.hashed_store.specs.Holes.{OverHole, NoneOver, Kept, Holed}
use Rattle.hashed_store.proofs.Held.{record_of, taken_out, put_in}
use Rattle.hashed_store.proofs.Meeting.{met-moved, met-closed, none_over}
use Rattle.hashed_store.proofs.Straying.{straying, straying-falls}

module _ {X : Type 0} (home : ℕ → ℕ → ℕ) (inside : (n k : ℕ) → 0 < n → home n k < n)
    (key : X → ℕ) where
  -- the slots after the record at i has moved into the hole h
  pub moved : List (Option X) → ℕ → ℕ → List (Option X)
  moved ss i h = set (set ss i None) h (slot_at ss i)

  pub moving-falls : (ss : List (Option X)) (h i : ℕ) → h < length ss → OverHole home key ss h i
      → straying home key (length ss) 0 (set (set ss i None) h (slot_at ss i)) < straying home key (length ss) 0 ss
  moving-falls ss h i lh o =
      let f = record_of (λ r. offset (length ss) h i ≤ strayed home key (length ss) i r) (slot_at ss i) o.over in
      rw f.1.0 (straying-falls home key (length ss) inside ss h i f.0 refl lh o.inside o.apart f.1.0 f.1.1)

  pub record Step (ss is : List (Option X)) (reach i : ℕ) : Type 0 where
    pub holed : Holed home key is reach i
    pub rows : sorted key (held is) ≡ sorted key (held ss)
    pub count : length (held is) ≡ length (held ss)

  pub moving-keeps : (ss : List (Option X)) (reach h i : ℕ) → h < length ss
      → OverHole home key ss h i → Holed home key ss reach h
      → Step ss (set (set ss i None) h (slot_at ss i)) reach i
  moving-keeps ss reach h i lh o was =
      let f = record_of (λ r. offset (length ss) h i ≤ strayed home key (length ss) i r) (slot_at ss i) o.over in
      let r : X = f.0 in
      let out = taken_out key ss i r o.inside f.1.0 was.apart in
      let away : h ≡ i → ⊥ = λ e. o.apart (sym e) in
      let sh : h < length (set ss i None) = simp length-set lh in
      let empty : slot_at (set ss i None) h ≡ None = get_or-set_other ss i h None None away ∙ was.hole in
      let put = put_in key (set ss i None) h r sh empty out.absent out.apart in
      let some : 0 < length ss = omega arith in
      let lens : length (set (set ss i None) h (Some r)) ≡ length ss = simp length-set in
      rw f.1.0 (record {
        holed = record {
          hole = get_or-set_other (set ss i None) h i (Some r) None o.apart ∙ get_or-set_same ss i None None o.inside;
          apart = put.apart;
          met = rw lens (met-moved home inside key (length ss) some ss reach h i r refl lh o.inside o.apart f.1.0 f.1.1 was.met);
        };
        rows = put.rows ∙ sym out.rows;
        count = put.greater ∙ sym out.fewer;
      })

  pub closed-ends : (ss : List (Option X)) (reach h u : ℕ) → h < length ss
      → NoneOver home key ss h reach u → Holed home key ss reach h → Kept home key ss reach
  closed-ends ss reach h u lh o was =
      let some : 0 < length ss = omega arith in
      record {
        apart = was.apart;
        rising = rising-sorted key (held ss) was.apart;
        met = met-closed home inside key (length ss) some ss reach h lh
            (none_over home inside key (length ss) some ss reach h u lh was.hole o.some o.short o.stop was.met) was.met;
      }

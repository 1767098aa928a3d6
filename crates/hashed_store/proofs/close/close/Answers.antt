use Rattle.std.proofs.Common.{ℕ, ◌<◌, set, ◌∙◌, subst, length-set, None}
use Rattle.hashed_store.specs.Slots.{slot_at}
use Rattle.hashed_store.proofs.Straying.{straying}
use Rattle.hashed_store.proofs.Closing.{moving-falls, moving-keeps, closed-ends}
use Rattle.hashed_store.proofs.close.close.Goals as goal

pub loop-place-smaller : goal.loop-place-smaller
loop-place-smaller g c =
    let ss = c.loop-place.slots in
    let i = c.in-Some.place in
    let h = c.loop-place.hole in
    rw c.move_back.ensures
    (subst (λ (n : ℕ). straying g.H.Home.home g.R.Record.key n 0 (set (set ss i None) h (slot_at ss i)) < straying g.H.Home.home g.R.Record.key n 0 ss) c.loop-place.invariant.0
    (moving-falls g.H.Home.home g.met.H.Home.inside g.R.Record.key ss h i c.loop-place.invariant.1 c.in-Some.ensures))

pub loop-place-preserved : goal.loop-place-preserved
loop-place-preserved g c =
    rw c.move_back.ensures (
      simp length-set c.loop-place.invariant.0,
      simp length-set c.in-Some.ensures.inside,
      λ was.
          let old = c.loop-place.invariant.2 was in
          let now = moving-keeps g.H.Home.home g.met.H.Home.inside g.R.Record.key c.loop-place.slots c.args.reach c.loop-place.hole c.in-Some.place c.loop-place.invariant.1 c.in-Some.ensures old.0 in
          (now.holed, now.rows ∙ old.1, now.count ∙ old.2),
    )

pub returns-clause-fills : goal.returns-clause-fills
returns-clause-fills g c was =
    let end = c.in_default.ensures in
    let old = c.loop-place.invariant.2 was in
    record {
      kept = closed-ends g.H.Home.home g.met.H.Home.inside g.R.Record.key c.loop-place.slots c.args.reach c.loop-place.hole end.0 c.loop-place.invariant.1 end.1 old.0;
      slots = c.loop-place.invariant.0;
      rows = old.1;
      count = old.2;
    }

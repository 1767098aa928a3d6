-- What stands in front goes on agreeing with the list below, after each change of both.
use Rattle.std.proofs.Common.{◌≡◌, ℕ, ◌%◌, Bool, true, false, eqb, List, length, get_or, set, is_some, Some, None, Ok, Err, Option, sym, refl, ap, ◌∙◌, ⊎_elim, mod-lt, lit<}
use Rattle.std.proofs.lemmas.List.{get_or-set_same, get_or-set_other, get_or_past, get_or-map, get_or-replicate, length-set, length-map}
use Rattle.std.proofs.lemmas.Bool.{eqb-true, eq-eqb, cases_eq, cases_lt, cases_Bool, both_ways}
use Rattle.records.specs.declared.order.Order.{Order}
use Rattle.records.specs.Keys.{order_key}
use Rattle.store.specs.declared.refusal.ReplaceRefusal.{ReplaceRefusal}
use Rattle.store.specs.Models.{Model, holding, insert_says, inserted, replace_says, replacing, removing, sweeping}
use Rattle.store.specs.Lists.{lookup, holds, placed, replaced, without, others}
use Rattle.front_row.specs.Fronts.{matching, standing, fronted, unfronted, cleared, swept_place, swept, Agrees, Follows, Backed}
use Rattle.store.proofs.Inserting.{accepted}
use Rattle.store.proofs.Lookups.{lookup-inserted, lookup-placed-other, lookup-replaced, lookup-replaced-other, lookup-without-other, lookup-others}

-- what stands under a key is what its place holds, and has that key
matching-entry : (k : ℕ) (e : Option Order) (o : Order) → matching k e ≡ Some o → (e ≡ Some o) × (order_key o ≡ k)
matching-entry k None o h = cc
matching-entry k (Some x) o h =
    ⊎_elim
    (λ t.
    let same : ◌≡◌ {A = Option Order} (Some x) (Some o) = rw t at h in
    let key : order_key x ≡ k = eqb-true (order_key x) k t in
    (same, (let f : x ≡ o = cc in sym (ap order_key f) ∙ key)))
    (λ t. let z = rw t at h in cc)
    (cases_Bool (eqb (order_key x) k))

-- a place written over holds what was written, if it holds anything
set-entry : {X : Type 0} (places : List (Option X)) (i j : ℕ) (e : Option X) (x : X) → j ≡ i → get_or (set places i e) j None ≡ Some x → e ≡ Some x
set-entry places i j e x q h =
    let g = ap (λ t. get_or (set places i e) t None) (sym q) ∙ h in
    ⊎_elim
    (λ l. sym (get_or-set_same places i e None l) ∙ g)
    (λ l. let past = get_or_past (set places i e) i None (simp length-set l) in cc)
    (cases_lt i (length places))

standing-set-other : (places : List (Option Order)) (i k : ℕ) (e : Option Order) → (k % 16 ≡ i → ⊥) → standing (set places i e) k ≡ standing places k
standing-set-other places i k e n = ap (matching k) (get_or-set_other places i (k % 16) e None n)

-- an order put in front of a list that has it now
agrees-fronted : (r : Order) (places : List (Option Order)) (rows later : List Order) →
    ((k : ℕ) → (order_key r ≡ k → ⊥) → lookup order_key k later ≡ lookup order_key k rows) → lookup order_key (order_key r) later ≡ Some r →
    Agrees places rows → Agrees (fronted r places) later
unfolding Agrees
agrees-fronted r places rows later rest own a k o h =
    ⊎_elim
    (λ e.
    let entry = matching-entry k (get_or (fronted r places) (k % 16) None) o h in
    let same : ◌≡◌ {A = Option Order} (Some r) (Some o) = set-entry places (order_key r % 16) (k % 16) (Some r) o e entry.0 in
    let f : r ≡ o = cc in
    let key : order_key r ≡ k = ap order_key f ∙ entry.1 in
    ap (λ j. lookup order_key j later) (sym key) ∙ own ∙ same)
    (λ n.
    rest k (λ e. n (ap (λ j. j % 16) (sym e))) ∙ a k o (sym (standing-set-other places (order_key r % 16) k (Some r) n) ∙ h))
    (cases_eq (k % 16) (order_key r % 16))

agrees-inserted : (r : Order) (places : List (Option Order)) (rows : List Order) →
    holds order_key (order_key r) rows ≡ false → Agrees places rows → Agrees (fronted r places) (placed order_key r rows)
agrees-inserted r places rows h =
    agrees-fronted r places rows (placed order_key r rows) (λ k n. lookup-placed-other order_key k r rows n) (lookup-inserted order_key r rows h)

agrees-replaced : (r : Order) (places : List (Option Order)) (rows : List Order) →
    holds order_key (order_key r) rows ≡ true → Agrees places rows → Agrees (fronted r places) (replaced order_key r rows)
agrees-replaced r places rows h =
    agrees-fronted r places rows (replaced order_key r rows) (λ k n. lookup-replaced-other order_key k r rows n) (lookup-replaced order_key r rows h)

-- an order whose key is not held changes nothing by its replacing
agrees-missing : (r : Order) (places : List (Option Order)) (rows : List Order) →
    holds order_key (order_key r) rows ≡ false → Agrees places rows → Agrees places (replaced order_key r rows)
unfolding Agrees
agrees-missing r places rows m a k o h =
    let found = a k o h in
    lookup-replaced-other order_key k r rows (λ e. both_ways (holds order_key k rows) (rw e at m) (ap is_some found)) ∙ found

-- nothing stands under a key taken from the front
unfronted-none : (places : List (Option Order)) (k : ℕ) (o : Order) → standing (unfronted k places) k ≡ Some o → ⊥
unfronted-none places k o h =
    ⊎_elim
    (λ t.
    let entry = matching-entry k (get_or (set places (k % 16) None) (k % 16) None) o (rw t at h) in
    let none = set-entry places (k % 16) (k % 16) None o refl entry.0 in
    cc)
    (λ t. both_ways (is_some (standing places k)) t (ap is_some (let e : standing places k ≡ Some o = rw t at h in e)))
    (cases_Bool (is_some (standing places k)))

-- what stands in front once a key is taken from it stood there before
unfronted-before : (places : List (Option Order)) (j k : ℕ) (o : Order) → standing (unfronted k places) j ≡ Some o → standing places j ≡ Some o
unfronted-before places j k o h =
    ⊎_elim
    (λ t.
    let g : standing (set places (k % 16) None) j ≡ Some o = rw t at h in
    ⊎_elim
    (λ e.
    let entry = matching-entry j (get_or (set places (k % 16) None) (j % 16) None) o g in
    let none = set-entry places (k % 16) (j % 16) None o e entry.0 in
    cc)
    (λ n. sym (standing-set-other places (k % 16) j None n) ∙ g)
    (cases_eq (j % 16) (k % 16)))
    (λ t. rw t at h)
    (cases_Bool (is_some (standing places k)))

agrees-removed : (k : ℕ) (places : List (Option Order)) (rows : List Order) → Agrees places rows → Agrees (unfronted k places) (without order_key k rows)
unfolding Agrees
agrees-removed k places rows a j o h =
    lookup-without-other order_key j k rows (λ e. unfronted-none places k o (ap (standing (unfronted k places)) e ∙ h))
    ∙ a j o (unfronted-before places j k o h)

-- an empty front agrees with every list
agrees-cleared : (rows : List Order) → Agrees cleared rows
unfolding Agrees
agrees-cleared rows k o h =
    let entry = matching-entry k (get_or cleared (k % 16) None) o h in
    let none : get_or cleared (k % 16) None ≡ None = get_or-replicate 16 (k % 16) None None (mod-lt k (lit< tt)) in
    let some = entry.0 in
    cc

-- a place that still holds something after a sweep held it before, and the test spares it
swept-place : (p : Order → Bool) (e : Option Order) (o : Order) → swept_place p e ≡ Some o → (e ≡ Some o) × (p o ≡ false)
swept-place p None o h = cc
swept-place p (Some x) o h =
    ⊎_elim
    (λ t. let z = rw t at h in cc)
    (λ t. let same : ◌≡◌ {A = Option Order} (Some x) (Some o) = rw t at h in (same, (let f : o ≡ x = cc in ap p f ∙ t)))
    (cases_Bool (p x))

swept-entry : (p : Order → Bool) (places : List (Option Order)) (i : ℕ) → get_or (swept p places) i None ≡ swept_place p (get_or places i None)
swept-entry p places i =
    ⊎_elim
    (λ l. get_or-map (swept_place p) places i None None l)
    (λ l. get_or_past (swept p places) i None (simp length-map l) ∙ ap (swept_place p) (sym (get_or_past places i None l)))
    (cases_lt i (length places))

agrees-swept : (p : Order → Bool) (places : List (Option Order)) (rows : List Order) → Agrees places rows → Agrees (swept p places) (others p rows)
unfolding Agrees
agrees-swept p places rows a k o h =
    let entry = matching-entry k (get_or (swept p places) (k % 16) None) o h in
    let before = swept-place p (get_or places (k % 16) None) o (sym (swept-entry p places (k % 16)) ∙ entry.0) in
    let stood : standing places k ≡ Some o = ap (matching k) before.0 ∙ rw (eq-eqb (order_key o) k entry.1) refl in
    lookup-others order_key p k o rows before.1 (a k o stood)

-- what stands in front is what is found below
pub backed-standing : (places : List (Option Order)) (rows : List Order) (k : ℕ) (r : Option Order) →
    r ≡ standing places k → Agrees places rows → Backed rows k r
unfolding Agrees
backed-standing places rows k None e a = tt
backed-standing places rows k (Some o) e a = sym (a k o (sym e))

-- the same of all places and lists that are equal to these
moved : (before after : List (Option Order)) (rows later : List Order) → after ≡ before → later ≡ rows → Agrees before rows → Agrees after later
moved before after rows later p q a = rw p (rw q a)

-- after each call of the store below, by what it answered and left
pub after-insert : (r : Order) (before after : List (Option Order)) → after ≡ fronted r before → Follows (λ m n. (Ok tt ≡ insert_says order_key r m) × (n ≡ inserted order_key r m)) before after
after-insert r before after p m n w a =
    let free = accepted order_key r m tt w.0 in
    moved (fronted r before) after (placed order_key r m.rows) n.rows
    p (ap (λ x. x.rows) (let g : n ≡ holding (placed order_key r m.rows) m = rw free.1 at (rw free.0 at w.1) in g))
    (agrees-inserted r before m.rows free.0 a)

pub after-replace : (r : Order) (before after : List (Option Order)) → after ≡ fronted r before → Follows (λ m n. (Ok tt ≡ replace_says order_key r m) × (n ≡ replacing order_key r m)) before after
after-replace r before after p m n w a =
    ⊎_elim
    (λ t. moved (fronted r before) after (replaced order_key r m.rows) n.rows p (ap (λ x. x.rows) w.1) (agrees-replaced r before m.rows t a))
    (λ t. let z = rw t at w.0 in cc)
    (cases_Bool (holds order_key (order_key r) m.rows))

-- a refused replacement changes nothing
pub unreplaced : (r : Order) (e : ReplaceRefusal) (places : List (Option Order)) (m n : Model Order) → Err e ≡ replace_says order_key r m → n ≡ replacing order_key r m → Agrees places m.rows → Agrees places n.rows
unreplaced r e places m n w f a =
    ⊎_elim
    (λ t. let z = rw t at w in cc)
    (λ t. moved places places (replaced order_key r m.rows) n.rows refl (ap (λ x. x.rows) f) (agrees-missing r places m.rows t a))
    (cases_Bool (holds order_key (order_key r) m.rows))

pub after-remove : (k : ℕ) (before after : List (Option Order)) → after ≡ unfronted k before → Follows (λ m n. n ≡ removing order_key k m) before after
after-remove k before after p m n f a =
    moved (unfronted k before) after (without order_key k m.rows) n.rows p (ap (λ x. x.rows) f) (agrees-removed k before m.rows a)

pub after-clear : (after : List (Option Order)) → after ≡ cleared → (rows : List Order) → Agrees after rows
after-clear after p rows = rw p (agrees-cleared rows)

pub after-sweep : (t : Order → Bool) (before after : List (Option Order)) → after ≡ swept t before → Follows (λ m n. n ≡ sweeping t m) before after
after-sweep t before after p m n f a =
    moved (swept t before) after (others t m.rows) n.rows p (ap (λ x. x.rows) f) (agrees-swept t before m.rows a)

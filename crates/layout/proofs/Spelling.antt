-- The laws of a slot: what spells a value is read as it, what is read spells it, and writing the value spells it again.
use Rattle.std.proofs.Common.{◌≡◌, ℕ, ◌+◌, ◌-◌, ◌*◌, ◌/◌, ◌^◌, ◌<◌, ◌≤◌, true, false, ◌&&◌, ltb, leb, List, [], ◌∷◌, map, length, get_or, take, replicate, Ok, Err, Result, sym, refl, ap, ◌∙◌, subst, mod-eq_of_lt, arith, lit≤}
use lib.Arith.{digits_div}
use Rattle.std.specs.Int.Digits.{number_from_digits as number_of, AllBelowBase}
use Rattle.std.specs.List.{AllByRecursion as All}
use Rattle.std.proofs.lemmas.Int.Digits.{number_lt, number_after_append}
use Rattle.std.proofs.ByRecursion.{All-get_or, All-from_get_or, All-map}
use Rattle.std.proofs.lemmas.List.{take_all, length-append, length-replicate, length-map, map-id}
use Rattle.std.proofs.lemmas.Bool.{and_parts, and_from, leb-true, le-leb, ltb-true, lt-ltb, eqb-true, eq-eqb, both_ways}
use Rattle.std.proofs.lemmas.Bool.Decides.{nat_tests}
use Rattle.layout.specs.declared.class.Class.{Class}
use Rattle.layout.specs.Bytes.{worth_of, byte_within}
use Rattle.layout.specs.Digits.{digits, digit_bytes}
use Rattle.layout.specs.Slots.{Slot, number, text, choice, width, Spells, SpellsNumber, SpellsText, keeps, holds, Passes, value_of, in_range, scan_slot, spell, givable, is_read_again}
use Rattle.layout.proofs.Digits.{under-digits, length_digits, number_digits, digits_number, number_after-is}
use Rattle.layout.proofs.Padding.{padded-keeps, split-of, under-padded}
use Rattle.layout.proofs.Reading.{Found, scan-found, scan-passes}
use Rattle.layout.proofs.Sound.{sound}
use Rattle.layout.proofs.Writing.{length-digit_bytes}

-- What keeps the rule at every place of the field is walked over to its end.
pub holds-all : (s : Slot) (p : List ℕ) (n : ℕ) → n ≤ length p → Passes (keeps s p) n → Passes (holds s p) n
holds-all s p n le h j lt = and_from (ltb j (length p)) (keeps s p j) (lt-ltb j (length p) (omega arith)) (h j lt)

pub keeps-all : (s : Slot) (p : List ℕ) (n : ℕ) → Passes (holds s p) n → Passes (keeps s p) n
keeps-all s p n h j lt = (and_parts (ltb j (length p)) (keeps s p j) (h j lt)).1

-- What a slot owes: the field's bytes p, of the right length, that pass the rule, spell their number if that is in range; and bytes that spell a number
-- pass the rule, have that number and are the ones that writing gives.
pub record Lawful (s : Slot) : Type 0 where
  pub size : (p : List ℕ) (v : ℕ) → Spells s p v → length p ≡ width s
  pub passes : (p : List ℕ) (v : ℕ) → Spells s p v → Passes (keeps s p) (width s)
  pub value : (p : List ℕ) (v : ℕ) → Spells s p v → value_of s p ≡ v
  pub inside : (p : List ℕ) (v : ℕ) → Spells s p v → in_range s v ≡ true
  pub spells : (p : List ℕ) → length p ≡ width s → Passes (keeps s p) (width s) → in_range s (value_of s p) ≡ true → Spells s p (value_of s p)
  pub again : (p : List ℕ) (v : ℕ) → Spells s p v → spell s v ≡ p
  pub long : (v : ℕ) → length (spell s v) ≡ width s
  pub given : (p : List ℕ) (v : ℕ) → Spells s p v → givable s v ≡ true
  pub gives : (v : ℕ) → givable s v ≡ true → Spells s (spell s v) v

-- A digit's byte is worth it, and the other way round.
worth-byte : (b d : ℕ) → b ≤ 36 → d < b → worth_of (byte_within b d) ≡ d
unfolding worth_of byte_within
worth-byte b d le lt = grind (arith, nat_tests)

byte_worth : (b x : ℕ) → b ≤ 36 → worth_of x < b → byte_within b (worth_of x) ≡ x
unfolding worth_of byte_within
byte_worth b x le lt = grind (arith, nat_tests)

-- the same of lists
bytes-worths : (b : ℕ) → b ≤ 36 → (p : List ℕ) → All (λ x. worth_of x < b) p → map (byte_within b) (map worth_of p) ≡ p
bytes-worths b le [] h = refl
bytes-worths b le (x ∷ p) h = let first = byte_worth b x le h.0 in let rest = bytes-worths b le p h.1 in cc

worths-bytes : (b : ℕ) → b ≤ 36 → (ds : List ℕ) → AllBelowBase b ds → map worth_of (map (byte_within b) ds) ≡ ds
worths-bytes b le [] h = refl
worths-bytes b le (d ∷ ds) h = let first = worth-byte b d le h.0 in let rest = worths-bytes b le ds h.1 in cc

under-bytes : (b : ℕ) → b ≤ 36 → (ds : List ℕ) → AllBelowBase b ds → All (λ x. worth_of x < b) (map (byte_within b) ds)
under-bytes b le [] h = tt
under-bytes b le (d ∷ ds) h = (rw (worth-byte b d le h.0) h.0, under-bytes b le ds h.1)

module _ (base count low high : ℕ) (two : 2 ≤ base) (few : base ≤ 36) (fits : high < base ^ count) where
  in-range : (v : ℕ) → low ≤ v → v ≤ high → (leb low v && leb v high) ≡ true
  in-range v l m = and_from (leb low v) (leb v high) (le-leb low v l) (le-leb v high m)

  number-again : (p : List ℕ) (v : ℕ) → SpellsNumber base count low high p v → digit_bytes base count v ≡ p
  unfolding digit_bytes
  number-again p v h =
      let size : length (map worth_of p) ≡ count = length-map p worth_of ∙ h.size in
      rw (← h.value, digits_number base count (map worth_of p) two (All-map (λ d. d < base) worth_of p h.digits) size) (bytes-worths base few p h.digits)

  number-gives : (v : ℕ) → low ≤ v → v ≤ high → SpellsNumber base count low high (digit_bytes base count v) v
  unfolding digit_bytes
  number-gives v l m =
      let small : v < base ^ count = omega arith in
      record {
        size = length-map (digits base count v) (byte_within base) ∙ length_digits base count v;
        digits = under-bytes base few (digits base count v) (under-digits base count v two);
        value = ap (number_of base) (worths-bytes base few (digits base count v) (under-digits base count v two)) ∙ number_digits base count v two ∙ mod-eq_of_lt small;
        least = l;
        most = m;
      }

  pub lawful-number : Lawful (number base count low high)
  unfolding value_of
  lawful-number = record {
    size = λ p v h. h.size;
    passes = λ p v h j lt. lt-ltb (worth_of (get_or p j 0)) base (All-get_or (λ x. worth_of x < base) p j 0 (omega (arith, h.size)) h.digits);
    value = λ p v h. h.value;
    inside = λ p v h. in-range v h.least h.most;
    spells = λ p size h e.
        let both = and_parts (leb low (number_of base (map worth_of p))) (leb (number_of base (map worth_of p)) high) e in
        record {
          size = size;
          digits = All-from_get_or (λ x. worth_of x < base) p 0 (λ i lt. ltb-true (worth_of (get_or p i 0)) base (h i (omega arith)));
          value = refl;
          least = leb-true low _ both.0;
          most = leb-true _ high both.1;
        };
    again = number-again;
    long = λ v. length-digit_bytes base count v;
    given = λ p v h. in-range v h.least h.most;
    gives = λ v e. let both = and_parts (leb low v) (leb v high) e in number-gives v (leb-true low v both.0) (leb-true v high both.1);
  }

module _ (k : Class) (least w whole : ℕ) (enough : least ≤ w) where
  text-again : (p : List ℕ) (v : ℕ) → SpellsText k least w whole p v → digit_bytes 256 w (v / 256 ^ (whole - w)) ≡ p
  unfolding digit_bytes byte_within
  text-again p v h =
      let pad = replicate (whole - w) 32 in
      let size : length pad ≡ whole - w = length-replicate (whole - w) 32 in
      let low : number_of 256 pad < 256 ^ (whole - w) = subst (λ n. number_of 256 pad < 256 ^ n) size (number_lt 256 pad (under-padded k [] (whole - w) tt)) in
      let whole' : number_of 256 p * 256 ^ (whole - w) + number_of 256 pad ≡ v = ap (λ n. number_of 256 p * 256 ^ n + number_of 256 pad) (sym size) ∙ sym (number_after-is 256 (number_of 256 p) pad) ∙ sym (number_after_append 256 0 p pad) ∙ h.value in
      let high : v / 256 ^ (whole - w) ≡ number_of 256 p = ap (λ n. n / 256 ^ (whole - w)) (sym whole') ∙ digits_div (number_of 256 p) low in
      let under : AllBelowBase 256 p = subst (AllBelowBase 256) (sym h.split) (under-padded k h.name h.spaces h.inside) in
      rw (high, digits_number 256 w p (lit≤ tt) under h.size) (map-id p)

  text-passes : (p : List ℕ) (v : ℕ) → SpellsText k least w whole p v → Passes (keeps (text k least w whole) p) w
  text-passes p v h =
      let total : length h.name + h.spaces ≡ w = sym (ap length h.split ∙ length-append h.name (replicate h.spaces 32) ∙ ap (λ n. length h.name + n) (length-replicate h.spaces 32)) ∙ h.size in
      subst (λ q. Passes (keeps (text k least w whole) q) w) (sym h.split) (λ j lt. padded-keeps k least w whole h.name h.spaces h.inside h.enough j (omega arith))

  text-spells : (p : List ℕ) → length p ≡ w → Passes (keeps (text k least w whole) p) w → SpellsText k least w whole p (value_of (text k least w whole) p)
  unfolding value_of
  text-spells p size h = split-of k least w whole p (subst (Passes (keeps (text k least w whole) p)) (sym size) h) size enough

  -- what a walk over the number's own bytes finds
  text-gives : (v : ℕ) (p : List ℕ) (r : Result ℕ ℕ) → length p ≡ w → Found (text k least w whole) p r → is_read_again v r ≡ true → SpellsText k least w whole p v
  text-gives v p (Ok n) size h e =
      let whole' : take w p ≡ p = take_all w p (omega arith) in
      subst (SpellsText k least w whole p) (ap (value_of (text k least w whole)) (sym whole') ∙ h.1 ∙ eqb-true n v e) (text-spells p size (keeps-all (text k least w whole) p w h.0))
  text-gives v p (Err i) size h e = absurd (both_ways false refl e)

  text-given : (p : List ℕ) (v : ℕ) → SpellsText k least w whole p v → givable (text k least w whole) v ≡ true
  unfolding value_of
  text-given p v h =
      let whole' : take w p ≡ p = take_all w p (omega (arith, h.size)) in
      let walked : scan_slot (text k least w whole) p ≡ Ok v = scan-passes (text k least w whole) p (holds-all (text k least w whole) p w (omega (arith, h.size)) (text-passes p v h)) ∙ rw whole' (ap Ok h.value) in
      rw (text-again p v h, walked) (eq-eqb v v refl)

  pub lawful-text : Lawful (text k least w whole)
  unfolding value_of
  lawful-text = record {
    size = λ p v h. h.size;
    passes = text-passes;
    value = λ p v h. h.value;
    inside = λ p v h. refl;
    spells = λ p size h e. text-spells p size h;
    again = text-again;
    long = λ v. length-digit_bytes 256 w (v / 256 ^ (whole - w));
    given = text-given;
    gives = λ v e. text-gives v (spell (text k least w whole) v) _ (length-digit_bytes 256 w _) (scan-found (text k least w whole) (spell (text k least w whole) v)) e;
  }

one-item : (p : List ℕ) → length p ≡ 1 → p ≡ get_or p 0 0 ∷ []
one-item [] e = absurd (omega arith)
one-item (x ∷ []) e = refl
one-item (x ∷ y ∷ p) e = absurd (omega arith)

pub lawful-choice : (letters : List ℕ) → Lawful (choice letters)
unfolding value_of
lawful-choice letters = record {
  size = λ p v h. ap length h.alone;
  passes = λ p v h j lt. let first : j ≡ 0 = omega arith in rw (h.alone, first) h.member;
  value = λ p v h. rw h.alone;
  inside = λ p v h. refl;
  spells = λ p size h e. record { alone = one-item p size; member = h 0 (omega arith) };
  again = λ p v h. sym h.alone;
  long = λ v. refl;
  given = λ p v h. h.member;
  gives = λ v e. record { alone = refl; member = e };
}

-- every sound slot keeps the laws
pub lawful : (s : Slot) → sound s ≡ true → Lawful s
lawful (number base count low high) e =
    let a = and_parts (leb 2 base) (leb base 36 && ltb high (base ^ count)) e in
    let b = and_parts (leb base 36) (ltb high (base ^ count)) a.1 in
    lawful-number base count low high (leb-true 2 base a.0) (leb-true base 36 b.0) (ltb-true high (base ^ count) b.1)
lawful (text class least w whole) e = lawful-text class least w whole (leb-true least w (and_parts (leb least w) (leb w whole) e).0)
lawful (choice letters) e = lawful-choice letters

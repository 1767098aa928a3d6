-- Where a command line is wrong first.
use Rattle.std.proofs.Common.{◌≡◌, ℕ, suc, ◌+◌, ◌<◌, ◌≤◌, List, [], ◌∷◌, ◌++◌, length, take, drop, Ok, Err, Option, Some, None, Result, IfErr, option_to_list, codes, refl, sym, ap, subst, subst₂, ◌∙◌, arith, lit≤}
use Rattle.layout.specs.Bytes.{worth_of}
use Rattle.layout.specs.Slots.{scan_slot, first_failing}
use Rattle.words.specs.Kinds.{kind_meant}
use Rattle.words.specs.Numbers.{number_of}
use Rattle.keys.specs.Keys.{symbol_of}
use Rattle.options.specs.declared.meaning.Meaning.{Meaning}
use Rattle.options.specs.declared.meaning.Meaning.TheVariants.{Front, Answers, Quiet, Help, Sets, Unknown, File}
use Rattle.options.specs.declared.mistake.Mistake.{Mistake}
use Rattle.options.specs.declared.mistake.Mistake.TheVariants as mistake
use Rattle.options.specs.declared.mistake.Wrong.{Wrong}
use Rattle.options.specs.declared.options.Options.{Options}
use Rattle.options.specs.declared.request.Request.{Request}
use Rattle.options.specs.declared.request.Reading.{Reading}
use Rattle.options.specs.declared.setting.Setting.{Setting}
use Rattle.options.specs.declared.setting.Setting.TheVariants.{Store, Orders, Executions, Symbols, DayLimit, Book}
use Rattle.options.specs.Requests.{nothing_read, valued_by, set_to, with_options, file_named, word_read, value_read, awaited_read, one_read, end_read, words_read, request_of}
use Rattle.options.specs.Settings.{awaiting_from, awaiting_after, places_from, places_of, IsNoValue, IsWrong, IsFirstMistake}
use Rattle.options.specs.Words.{word_meant}
use Rattle.options.proofs.Steps.{err_inj, awaiting_step, files_step}

-- a word to which an option can be set
sample : Setting → List ℕ
sample Store = codes "row"
sample Book = codes "A"
sample setting = codes "1"

sample-set : (s : Setting) (o : Options) → (p : Options) × (set_to s (sample s) o ≡ Ok p)
unfolding sample worth_of scan_slot first_failing
sample-set Store o = (_, refl)
sample-set Orders o = (_, refl)
sample-set Executions o = (_, refl)
sample-set Symbols o = (_, refl)
sample-set DayLimit o = (_, refl)
sample-set Book o = (_, refl)

-- what was read so far makes no mistake, with the word behind it that an option may await
goes-on : (place : ℕ) (r : Reading) → (awaited : List (List ℕ)) × (length awaited ≤ 1) × (request : Request) × (words_read place awaited r ≡ Ok request)
unfolding words_read
goes-on place r = by_awaited r.awaiting refl
  where
    by_awaited : (o : Option Setting) → r.awaiting ≡ o → (awaited : List (List ℕ)) × (length awaited ≤ 1) × (request : Request) × (words_read place awaited r ≡ Ok request)
    by_awaited None is = ([], lit≤ tt, r.request, ap (λ a. end_read place a r.request) is)
    by_awaited (Some s) is = let set = sample-set s r.request.options in (sample s ∷ [], lit≤ tt, record r.request { options = set.0 }, rw (is, set.1) refl)

-- an option that cannot be set to the word
unvalued : {X : Type 0} (s : Setting) (v : Option X) (change : X → Options) (m : Mistake) → valued_by s v change ≡ Err m → (v ≡ None) × (mistake.Value s ≡ m)
unvalued s None change m is = (refl, err_inj is)
unvalued s (Some x) change m is = absurd (let f : ◌≡◌ {A = Result Options Mistake} (Ok (change x)) (Err m) = is in cc)

unset : (s : Setting) (w : List ℕ) (o : Options) (m : Mistake) → set_to s w o ≡ Err m → IsNoValue s w × (mistake.Value s ≡ m)
unset Store w o m is = unvalued Store (kind_meant w) _ m is
unset Orders w o m is = unvalued Orders (number_of w) _ m is
unset Executions w o m is = unvalued Executions (number_of w) _ m is
unset Symbols w o m is = unvalued Symbols (number_of w) _ m is
unset DayLimit w o m is = unvalued DayLimit (number_of w) _ m is
unset Book w o m is = unvalued Book (symbol_of w) _ m is

unread : (r : Reading) (a : Result Options Mistake) (m : Mistake) → value_read r a ≡ Err m → a ≡ Err m
unread r (Err n) m is = ap Err (err_inj is)
unread r (Ok p) m is = absurd (let f : ◌≡◌ {A = Result Reading Mistake} (Ok (with_options r p)) (Err m) = is in cc)

mistaken : (place : ℕ) (w : List ℕ) (ws : List (List ℕ)) (r : Reading) (m : Mistake) → one_read place w r ≡ Err m → IsWrong r.awaiting (option_to_list r.request.file ++ []) (w ∷ ws) m
mistaken place w ws r m is = by_awaited r.awaiting refl
  where
    Here : Mistake → Type 0
    Here n = IsWrong r.awaiting (option_to_list r.request.file ++ []) (w ∷ ws) n

    by_file : (o : Option ℕ) → r.request.file ≡ o → r.awaiting ≡ None → word_meant w ≡ File → file_named place o r.request.options ≡ Err m → Here m
    by_file (Some other) some none file e = subst Here (err_inj e) (none, file, other, ap (λ f. option_to_list f ++ []) some)
    by_file None unnamed none file e = absurd (let f : ◌≡◌ {A = Result Reading Mistake} (Ok _) (Err m) = e in cc)

    by_meaning : (meaning : Meaning) → word_meant w ≡ meaning → r.awaiting ≡ None → word_read place meaning r ≡ Err m → Here m
    by_meaning Front so none e = absurd (let f : ◌≡◌ {A = Result Reading Mistake} (Ok _) (Err m) = e in cc)
    by_meaning Answers so none e = absurd (let f : ◌≡◌ {A = Result Reading Mistake} (Ok _) (Err m) = e in cc)
    by_meaning Quiet so none e = absurd (let f : ◌≡◌ {A = Result Reading Mistake} (Ok _) (Err m) = e in cc)
    by_meaning Help so none e = absurd (let f : ◌≡◌ {A = Result Reading Mistake} (Ok _) (Err m) = e in cc)
    by_meaning (Sets t) so none e = absurd (let f : ◌≡◌ {A = Result Reading Mistake} (Ok _) (Err m) = e in cc)
    by_meaning Unknown so none e = subst Here (err_inj e) (none, so)
    by_meaning File so none e = by_file r.request.file refl none so e

    by_awaited : (o : Option Setting) → r.awaiting ≡ o → Here m
    by_awaited None none = by_meaning (word_meant w) refl none (ap (λ a. awaited_read place w a r) (sym none) ∙ is)
    by_awaited (Some s) some =
        let no = unset s w r.request.options m (unread r (set_to s w r.request.options) m (ap (λ a. awaited_read place w a r) (sym some) ∙ is)) in
        subst Here no.1 (some, no.0)

-- of the words from a place on
record First (place : ℕ) (ws : List (List ℕ)) (r : Reading) (wrong : Wrong) : Type 0 where
  pub more : ℕ
  pub at_place : wrong.place ≡ place + more
  pub inside : more ≤ length ws
  pub mistake : IsWrong (awaiting_from r.awaiting (take more ws)) (option_to_list r.request.file ++ places_from File place r.awaiting (take more ws)) (drop more ws) wrong.mistake
  pub here : more < length ws → (after : List (List ℕ)) → words_read place (take (suc more) ws ++ after) r ≡ Err wrong
  pub before : (awaited : List (List ℕ)) × (length awaited ≤ 1) × (request : Request) × (words_read place (take more ws ++ awaited) r ≡ Ok request)

first-of : (place : ℕ) (ws : List (List ℕ)) (r : Reading) (wrong : Wrong) → words_read place ws r ≡ Err wrong → First place ws r wrong
unfolding words_read
first-of place [] r wrong is = by_awaited r.awaiting refl
  where
    by_awaited : (o : Option Setting) → r.awaiting ≡ o → First place [] r wrong
    by_awaited None none = absurd (let f : ◌≡◌ {A = Result Request Wrong} (Ok r.request) (Err wrong) = rw none at is in cc)
    by_awaited (Some s) some = record {
      more = 0;
      at_place =
          (let f : ◌≡◌ {A = Result Request Wrong} (Err (record { place = place; mistake = mistake.Missing s })) (Err wrong) = rw some at is in
          let same : wrong ≡ record { place = place; mistake = mistake.Missing s } = cc in ap (λ w. w.place) same ∙ omega arith);
      inside = omega arith;
      mistake = (let f : ◌≡◌ {A = Result Request Wrong} (Err (record { place = place; mistake = mistake.Missing s })) (Err wrong) = rw some at is in
          subst (IsWrong r.awaiting (option_to_list r.request.file ++ []) []) (ap (λ w. w.mistake) (err_inj f)) some);
      here = λ less. absurd (omega (arith, less));
      before = goes-on place r;
    }
first-of place (w ∷ ws) r wrong is = by_word (one_read place w r) refl (λ next. first-of (place + 1) ws next wrong)
  where
    by_word : (a : Result Reading Mistake) → one_read place w r ≡ a → ((next : Reading) → words_read (place + 1) ws next ≡ Err wrong → First (place + 1) ws next wrong)
        → First place (w ∷ ws) r wrong
    by_word (Err m) said others = record {
      more = 0;
      at_place =
          (let f : ◌≡◌ {A = Result Request Wrong} (Err (record { place = place; mistake = m })) (Err wrong) = rw said at is in
          let same : wrong ≡ record { place = place; mistake = m } = cc in ap (λ w. w.place) same ∙ omega arith);
      inside = omega arith;
      mistake = (let f : ◌≡◌ {A = Result Request Wrong} (Err (record { place = place; mistake = m })) (Err wrong) = rw said at is in
          subst (IsWrong r.awaiting (option_to_list r.request.file ++ []) (w ∷ ws)) (ap (λ w. w.mistake) (err_inj f)) (mistaken place w ws r m said));
      here = λ less after. (rw said (rw said at is));
      before = goes-on place r;
    }
    by_word (Ok next) said others =
        let f = others next (rw said at is) in record {
          more = suc f.more;
          at_place = f.at_place ∙ omega arith;
          inside = (let i = f.inside in omega arith);
          mistake =
              subst₂ (λ a files. IsWrong a files (drop f.more ws) wrong.mistake) (awaiting_step place w (take f.more ws) r next said) (files_step place w (take f.more ws) r next said) f.mistake;
          here = λ less after. rw said (f.here (omega (arith, less)) after);
          before = (f.before.0, f.before.1, f.before.2, rw said f.before.3);
        }

pub is_first : (words : List (List ℕ)) (result : Result Request Wrong) → result ≡ request_of words → IfErr result (λ wrong. IsFirstMistake words wrong)
is_first words (Ok request) is = tt
is_first words (Err wrong) is =
    let f = first-of 0 words nothing_read wrong (sym is) in
    let same : f.more ≡ wrong.place = (let e = f.at_place in omega arith) in record {
      here = λ less after. subst (λ n. request_of (take n words ++ after) ≡ Err wrong) (let e : suc f.more ≡ wrong.place + 1 = omega (arith, same) in e) (f.here (omega (arith, same, less)) after);
      inside = (let i = f.inside in omega (arith, same));
      mistake = subst (λ n. IsWrong (awaiting_after (take n words)) (places_of File (take n words)) (drop n words) wrong.mistake) same f.mistake;
      before = (f.before.0, f.before.1, f.before.2, subst (λ n. request_of (take n words ++ f.before.0) ≡ Ok f.before.2) same f.before.3);
    }

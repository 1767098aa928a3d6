-- What one word does to what was read so far.
use Rattle.std.proofs.Common.{◌≡◌, ℕ, ◌+◌, cond, List, [], ◌∷◌, ◌++◌, Ok, Err, Option, Some, None, Result, option_to_list, refl, sym, ap, ◌∙◌}
use Rattle.options.specs.declared.meaning.Meaning.{Meaning}
use Rattle.options.specs.declared.meaning.Meaning.TheVariants.{Front, Answers, Quiet, Help, Sets, Unknown, File}
use Rattle.options.specs.declared.mistake.Mistake.{Mistake}
use Rattle.options.specs.declared.mistake.Mistake.TheVariants as mistake
use Rattle.options.specs.declared.mistake.Wrong.{Wrong}
use Rattle.options.specs.declared.options.Options.{Options}
use Rattle.options.specs.declared.request.Request.{Request}
use Rattle.options.specs.declared.request.Reading.{Reading}
use Rattle.options.specs.declared.setting.Setting.{Setting}
use Rattle.options.specs.Requests.{set_to, file_named, word_read, value_read, awaited_read, one_read, end_read, read_to_end, unless_wrong, words_read, with_options}
use Rattle.options.specs.Settings.{awaited_by, awaiting_from, is_alike, places_from}
use Rattle.options.specs.Words.{word_meant}

pub ok-inj : {X Y : Type 0} {x y : X} → ◌≡◌ {A = Result X Y} (Ok x) (Ok y) → x ≡ y
ok-inj e = cc

pub err_inj : {X Y : Type 0} {x y : X} → ◌≡◌ {A = Result Y X} (Err x) (Err y) → x ≡ y
err_inj e = cc

pub awaits : (place : ℕ) (m : Meaning) (r next : Reading) → word_read place m r ≡ Ok next → next.awaiting ≡ awaited_by m
awaits place Front r next is = ap (λ n. n.awaiting) (sym (ok-inj is))
awaits place Answers r next is = ap (λ n. n.awaiting) (sym (ok-inj is))
awaits place Quiet r next is = ap (λ n. n.awaiting) (sym (ok-inj is))
awaits place Help r next is = ap (λ n. n.awaiting) (sym (ok-inj is))
awaits place (Sets t) r next is = ap (λ n. n.awaiting) (sym (ok-inj is))
awaits place Unknown r next is = absurd (let f : ◌≡◌ {A = Result Reading Mistake} (Err mistake.Unknown) (Ok next) = is in cc)
awaits place File r next is = by_file r.request.file is
  where
    by_file : (o : Option ℕ) → file_named place o r.request.options ≡ Ok next → next.awaiting ≡ None
    by_file None is = ap (λ n. n.awaiting) (sym (ok-inj is))
    by_file (Some other) is = absurd (let f : ◌≡◌ {A = Result Reading Mistake} (Err mistake.SecondFile) (Ok next) = is in cc)

-- the word that was awaited
value-read : (r next : Reading) (a : Result Options Mistake) → value_read r a ≡ Ok next → (p : Options) × (a ≡ Ok p) × (next ≡ with_options r p)
value-read r next (Ok p) is = (p, refl, sym (ok-inj is))
value-read r next (Err m) is = absurd (let f : ◌≡◌ {A = Result Reading Mistake} (Err m) (Ok next) = is in cc)

-- a word that is no mistake, and what comes after it
pub goes : (place : ℕ) (a : Result Reading Mistake) (after : Reading → Result Request Wrong) (request : Request) → unless_wrong place a after ≡ Ok request
    → (next : Reading) × (a ≡ Ok next) × (after next ≡ Ok request)
goes place (Ok next) after request is = (next, refl, is)
goes place (Err m) after request is = absurd (let f : ◌≡◌ {A = Result Request Wrong} (Err (record { place = place; mistake = m })) (Ok request) = is in cc)

-- where no word more comes
pub ended : (place : ℕ) (r : Reading) (request : Request) → read_to_end place r ≡ Ok request → r.request ≡ request
ended place r request is = by_awaited r.awaiting is
  where
    by_awaited : (o : Option Setting) → end_read place o r.request ≡ Ok request → r.request ≡ request
    by_awaited None is = ok-inj is
    by_awaited (Some t) is = absurd (let f : ◌≡◌ {A = Result Request Wrong} (Err (record { place = place; mistake = mistake.Missing t })) (Ok request) = is in cc)

-- a word that is no mistake is what an option awaits, or it stands by itself
pub one_of : {P : Type 0} (place : ℕ) (w : List ℕ) (r next : Reading) → one_read place w r ≡ Ok next
    → ((t : Setting) (p : Options) → r.awaiting ≡ Some t → set_to t w r.request.options ≡ Ok p → next ≡ with_options r p → P)
    → (r.awaiting ≡ None → word_read place (word_meant w) r ≡ Ok next → P) → P
one_of {P} place w r next is value alone = by_awaited r.awaiting refl
  where
    by_awaited : (o : Option Setting) → r.awaiting ≡ o → P
    by_awaited None none = alone none (ap (λ a. awaited_read place w a r) (sym none) ∙ is)
    by_awaited (Some t) some =
        let v = value-read r next (set_to t w r.request.options) (ap (λ a. awaited_read place w a r) (sym some) ∙ is) in
        value t v.0 some v.1 v.2

pub awaiting_step : (place : ℕ) (w : List ℕ) (ws : List (List ℕ)) (r next : Reading) → one_read place w r ≡ Ok next
    → awaiting_from next.awaiting ws ≡ awaiting_from r.awaiting (w ∷ ws)
awaiting_step place w ws r next is =
    one_of place w r next is
    (λ t p some set e. rw some (ap (λ n. awaiting_from n.awaiting ws) e))
    (λ none read. rw none (ap (λ a. awaiting_from a ws) (awaits place (word_meant w) r next read)))

-- A part of the request that words by themselves add to, and their places.
module _ {Y : Type 0} (part : Request → Y) (meaning : Meaning) (join : Y → List ℕ → Y)
    (kept : (request : Request) (t : Setting) (w : List ℕ) (p : Options) → set_to t w request.options ≡ Ok p → part (record request { options = p }) ≡ part request)
    (alone : (place : ℕ) (m : Meaning) (r next : Reading) (places : List ℕ) → word_read place m r ≡ Ok next
    → join (part next.request) places ≡ join (part r.request) (cond (is_alike meaning m) (place ∷ places) places)) where
  pub places_step : (place : ℕ) (w : List ℕ) (ws : List (List ℕ)) (r next : Reading) → one_read place w r ≡ Ok next
      → join (part next.request) (places_from meaning (place + 1) next.awaiting ws) ≡ join (part r.request) (places_from meaning place r.awaiting (w ∷ ws))
  places_step place w ws r next is =
      one_of place w r next is
      (λ t p some set e.
      rw some (ap (λ n. join (part n.request) (places_from meaning (place + 1) n.awaiting ws)) e
      ∙ ap (λ q. join q (places_from meaning (place + 1) None ws)) (kept r.request t w p set)))
      (λ none read.
      rw none (ap (λ a. join (part next.request) (places_from meaning (place + 1) a ws)) (awaits place (word_meant w) r next read)
      ∙ alone place (word_meant w) r next (places_from meaning (place + 1) (awaited_by (word_meant w)) ws) read))

  pub places_all : (place : ℕ) (ws : List (List ℕ)) (r : Reading) (request : Request) → words_read place ws r ≡ Ok request
      → join (part request) [] ≡ join (part r.request) (places_from meaning place r.awaiting ws)
  unfolding words_read
  places_all place [] r request is = ap (λ q. join (part q) []) (sym (ended place r request is))
  places_all place (w ∷ ws) r request is =
      let on = goes place (one_read place w r) (λ next. words_read (place + 1) ws next) request is in
      places_all (place + 1) ws on.0 request on.2 ∙ places_step place w ws r on.0 on.1

file-alone : (place : ℕ) (m : Meaning) (r next : Reading) (places : List ℕ) → word_read place m r ≡ Ok next
    → option_to_list next.request.file ++ places ≡ option_to_list r.request.file ++ cond (is_alike File m) (place ∷ places) places
file-alone place Front r next places is = ap (λ n. option_to_list n.request.file ++ places) (sym (ok-inj is))
file-alone place Answers r next places is = ap (λ n. option_to_list n.request.file ++ places) (sym (ok-inj is))
file-alone place Quiet r next places is = ap (λ n. option_to_list n.request.file ++ places) (sym (ok-inj is))
file-alone place Help r next places is = ap (λ n. option_to_list n.request.file ++ places) (sym (ok-inj is))
file-alone place (Sets t) r next places is = ap (λ n. option_to_list n.request.file ++ places) (sym (ok-inj is))
file-alone place Unknown r next places is = absurd (let f : ◌≡◌ {A = Result Reading Mistake} (Err mistake.Unknown) (Ok next) = is in cc)
file-alone place File r next places is = by_file r.request.file refl is
  where
    by_file : (o : Option ℕ) → r.request.file ≡ o → file_named place o r.request.options ≡ Ok next
        → option_to_list next.request.file ++ places ≡ option_to_list r.request.file ++ (place ∷ places)
    by_file None none is = rw none (ap (λ n. option_to_list n.request.file ++ places) (sym (ok-inj is)))
    by_file (Some other) some is = absurd (let f : ◌≡◌ {A = Result Reading Mistake} (Err mistake.SecondFile) (Ok next) = is in cc)

pub files_step : (place : ℕ) (w : List ℕ) (ws : List (List ℕ)) (r next : Reading) → one_read place w r ≡ Ok next
    → option_to_list next.request.file ++ places_from File (place + 1) next.awaiting ws ≡ option_to_list r.request.file ++ places_from File place r.awaiting (w ∷ ws)
files_step = places_step (λ q. option_to_list q.file) File (λ xs ys. xs ++ ys) (λ request t w p is. refl) file-alone

pub files_all : (place : ℕ) (ws : List (List ℕ)) (r : Reading) (request : Request) → words_read place ws r ≡ Ok request
    → option_to_list request.file ++ [] ≡ option_to_list r.request.file ++ places_from File place r.awaiting ws
files_all = places_all (λ q. option_to_list q.file) File (λ xs ys. xs ++ ys) (λ request t w p is. refl) file-alone

-- The last of two settings counts.
use Rattle.std.proofs.Common.{◌≡◌, ℕ, ◌+◌, Bool, true, false, cond, List, [], ◌∷◌, Ok, Err, Option, Some, None, Result, IfOk, option_map, option_to_list, append-nil, refl, sym, ap, subst, ◌∙◌}
use Rattle.words.specs.declared.kind.Kind.{Kind}
use Rattle.words.specs.Kinds.{kind_meant}
use Rattle.words.specs.Numbers.{number_of}
use Rattle.keys.specs.Keys.{symbol_of}
use Rattle.options.specs.declared.meaning.Meaning.{Meaning}
use Rattle.options.specs.declared.meaning.Meaning.TheVariants.{Front, Answers, Quiet, Help, Sets, Unknown, File}
use Rattle.options.specs.declared.mistake.Mistake.{Mistake}
use Rattle.options.specs.declared.mistake.Mistake.TheVariants as mistake
use Rattle.options.specs.declared.mistake.Wrong.{Wrong}
use Rattle.options.specs.declared.options.Options.{Options}
use Rattle.options.specs.declared.request.Request.{Request}
use Rattle.options.specs.declared.request.Reading.{Reading}
use Rattle.options.specs.declared.setting.Setting.{Setting}
use Rattle.options.specs.declared.setting.Setting.TheVariants.{Store, Orders, Executions, Symbols, DayLimit, Book}
use Rattle.options.specs.Requests.{defaults, nothing_read, with_stores, with_shown, with_limit, valued_by, limit_set, set_to, file_named, word_read, one_read, words_read, request_of}
use Rattle.options.specs.Settings.{settings_from, is_same, last_or, IsSaid, book_meant, is_alike, is_any, is_given, places_of, HasLast}
use Rattle.options.specs.Words.{word_meant}
use Rattle.options.proofs.Steps.{ok-inj, awaits, goes, ended, one_of, places_all, files_all}

-- What a word sets.

valued : {X : Type 0} (s : Setting) (v : Option X) (change : X → Options) (p : Options) → valued_by s v change ≡ Ok p → (x : X) × (v ≡ Some x) × (p ≡ change x)
valued s None change p is = absurd (let f : ◌≡◌ {A = Result Options Mistake} (Err (mistake.Value s)) (Ok p) = is in cc)
valued s (Some x) change p is = (x, refl, sym (ok-inj is))

module _ (w : List ℕ) (o p : Options) where
  store-set : set_to Store w o ≡ Ok p → (kind : Kind) × (kind_meant w ≡ Some kind) × (p ≡ with_stores (record o.stores { kind = kind }) o)
  store-set is = valued Store (kind_meant w) (λ kind. with_stores (record o.stores { kind = kind }) o) p is

  symbol-set : set_to Book w o ≡ Ok p → (n : ℕ) × (symbol_of w ≡ Some n) × (p ≡ with_shown (record o.shown { book = Some n }) o)
  symbol-set is = valued Book (symbol_of w) (λ n. with_shown (record o.shown { book = Some n }) o) p is

  limits-set : (s : Setting) → limit_set s w o ≡ Ok p → (n : ℕ) × (number_of w ≡ Some n) × (p ≡ record o { room = with_limit s n o.room })
  limits-set s is = valued s (number_of w) (λ n. record o { room = with_limit s n o.room }) p is

-- what a word means, where it sets the part, and else what was there
abbrev IsSet : {X : Type 0} → Bool → Option X → (old new : X) → Type 0
IsSet true meant old new = meant ≡ Some new
IsSet false meant old new = new ≡ old

-- A part of the options that one setting sets, and nothing else.
record SetBy {X : Type 0} (s : Setting) (part : Options → X) (meant : List ℕ → Option X) : Type 0 where
  pub set : (t : Setting) (w : List ℕ) (o p : Options) → set_to t w o ≡ Ok p → IsSet (is_same t s) (meant w) (part o) (part p)
  pub front : (o : Options) → part (with_stores (record o.stores { front = true }) o) ≡ part o
  pub answers : (o : Options) → part (with_shown (record o.shown { answers = true }) o) ≡ part o
  pub quiet : (o : Options) → part (with_shown (record o.shown { quiet = true }) o) ≡ part o
  pub help : (o : Options) → part (with_shown (record o.shown { help = true }) o) ≡ part o

kind-set : (t : Setting) (w : List ℕ) (o p : Options) → set_to t w o ≡ Ok p → IsSet (is_same t Store) (kind_meant w) o.stores.kind p.stores.kind
kind-set Store w o p is = let v = store-set w o p is in v.1 ∙ sym (ap (λ q. Some q.stores.kind) v.2)
kind-set Orders w o p is = ap (λ q. q.stores.kind) (limits-set w o p Orders is).2
kind-set Executions w o p is = ap (λ q. q.stores.kind) (limits-set w o p Executions is).2
kind-set Symbols w o p is = ap (λ q. q.stores.kind) (limits-set w o p Symbols is).2
kind-set DayLimit w o p is = ap (λ q. q.stores.kind) (limits-set w o p DayLimit is).2
kind-set Book w o p is = ap (λ q. q.stores.kind) (symbol-set w o p is).2

orders-set : (t : Setting) (w : List ℕ) (o p : Options) → set_to t w o ≡ Ok p → IsSet (is_same t Orders) (number_of w) o.room.orders p.room.orders
orders-set Store w o p is = ap (λ q. q.room.orders) (store-set w o p is).2
orders-set Orders w o p is = let v = limits-set w o p Orders is in v.1 ∙ sym (ap (λ q. Some q.room.orders) v.2)
orders-set Executions w o p is = ap (λ q. q.room.orders) (limits-set w o p Executions is).2
orders-set Symbols w o p is = ap (λ q. q.room.orders) (limits-set w o p Symbols is).2
orders-set DayLimit w o p is = ap (λ q. q.room.orders) (limits-set w o p DayLimit is).2
orders-set Book w o p is = ap (λ q. q.room.orders) (symbol-set w o p is).2

executions-set : (t : Setting) (w : List ℕ) (o p : Options) → set_to t w o ≡ Ok p → IsSet (is_same t Executions) (number_of w) o.room.executions p.room.executions
executions-set Store w o p is = ap (λ q. q.room.executions) (store-set w o p is).2
executions-set Orders w o p is = ap (λ q. q.room.executions) (limits-set w o p Orders is).2
executions-set Executions w o p is = let v = limits-set w o p Executions is in v.1 ∙ sym (ap (λ q. Some q.room.executions) v.2)
executions-set Symbols w o p is = ap (λ q. q.room.executions) (limits-set w o p Symbols is).2
executions-set DayLimit w o p is = ap (λ q. q.room.executions) (limits-set w o p DayLimit is).2
executions-set Book w o p is = ap (λ q. q.room.executions) (symbol-set w o p is).2

symbols-set : (t : Setting) (w : List ℕ) (o p : Options) → set_to t w o ≡ Ok p → IsSet (is_same t Symbols) (number_of w) o.room.symbols p.room.symbols
symbols-set Store w o p is = ap (λ q. q.room.symbols) (store-set w o p is).2
symbols-set Orders w o p is = ap (λ q. q.room.symbols) (limits-set w o p Orders is).2
symbols-set Executions w o p is = ap (λ q. q.room.symbols) (limits-set w o p Executions is).2
symbols-set Symbols w o p is = let v = limits-set w o p Symbols is in v.1 ∙ sym (ap (λ q. Some q.room.symbols) v.2)
symbols-set DayLimit w o p is = ap (λ q. q.room.symbols) (limits-set w o p DayLimit is).2
symbols-set Book w o p is = ap (λ q. q.room.symbols) (symbol-set w o p is).2

day-limit-set : (t : Setting) (w : List ℕ) (o p : Options) → set_to t w o ≡ Ok p → IsSet (is_same t DayLimit) (number_of w) o.room.day_limit p.room.day_limit
day-limit-set Store w o p is = ap (λ q. q.room.day_limit) (store-set w o p is).2
day-limit-set Orders w o p is = ap (λ q. q.room.day_limit) (limits-set w o p Orders is).2
day-limit-set Executions w o p is = ap (λ q. q.room.day_limit) (limits-set w o p Executions is).2
day-limit-set Symbols w o p is = ap (λ q. q.room.day_limit) (limits-set w o p Symbols is).2
day-limit-set DayLimit w o p is = let v = limits-set w o p DayLimit is in v.1 ∙ sym (ap (λ q. Some q.room.day_limit) v.2)
day-limit-set Book w o p is = ap (λ q. q.room.day_limit) (symbol-set w o p is).2

book-set : (t : Setting) (w : List ℕ) (o p : Options) → set_to t w o ≡ Ok p → IsSet (is_same t Book) (book_meant w) o.shown.book p.shown.book
book-set Store w o p is = ap (λ q. q.shown.book) (store-set w o p is).2
book-set Orders w o p is = ap (λ q. q.shown.book) (limits-set w o p Orders is).2
book-set Executions w o p is = ap (λ q. q.shown.book) (limits-set w o p Executions is).2
book-set Symbols w o p is = ap (λ q. q.shown.book) (limits-set w o p Symbols is).2
book-set DayLimit w o p is = ap (λ q. q.shown.book) (limits-set w o p DayLimit is).2
book-set Book w o p is = let v = symbol-set w o p is in ap (option_map Some) v.1 ∙ sym (ap (λ q. Some q.shown.book) v.2)

-- words that set nothing before them

module _ {X : Type 0} (s : Setting) (part : Options → X) (meant : List ℕ → Option X) (by : SetBy s part meant) where
  keeps : (place : ℕ) (m : Meaning) (r next : Reading) → word_read place m r ≡ Ok next → part next.request.options ≡ part r.request.options
  keeps place Front r next is = ap (λ n. part n.request.options) (sym (ok-inj is)) ∙ by.front r.request.options
  keeps place Answers r next is = ap (λ n. part n.request.options) (sym (ok-inj is)) ∙ by.answers r.request.options
  keeps place Quiet r next is = ap (λ n. part n.request.options) (sym (ok-inj is)) ∙ by.quiet r.request.options
  keeps place Help r next is = ap (λ n. part n.request.options) (sym (ok-inj is)) ∙ by.help r.request.options
  keeps place (Sets t) r next is = ap (λ n. part n.request.options) (sym (ok-inj is))
  keeps place Unknown r next is = absurd (let f : ◌≡◌ {A = Result Reading Mistake} (Err mistake.Unknown) (Ok next) = is in cc)
  keeps place File r next is = by_file r.request.file is
    where
      by_file : (o : Option ℕ) → file_named place o r.request.options ≡ Ok next → part next.request.options ≡ part r.request.options
      by_file None is = ap (λ n. part n.request.options) (sym (ok-inj is))
      by_file (Some other) is = absurd (let f : ◌≡◌ {A = Result Reading Mistake} (Err mistake.SecondFile) (Ok next) = is in cc)

module _ {X : Type 0} (s : Setting) (part : Options → X) (meant : List ℕ → Option X) (by : SetBy s part meant) (d : X) where
  one-set : (t : Setting) (w : List ℕ) (word : Option (List ℕ)) (o p : Options) → set_to t w o ≡ Ok p → IsSaid meant d word (part o)
      → IsSaid meant d (cond (is_same t s) (Some w) word) (part p)
  one-set t w word o p is so = by_same (is_same t s) (by.set t w o p is)
    where
      by_same : (b : Bool) → IsSet b (meant w) (part o) (part p) → IsSaid meant d (cond b (Some w) word) (part p)
      by_same true e = e
      by_same false e = subst (IsSaid meant d word) (sym e) so

  last-of : (place : ℕ) (ws : List (List ℕ)) (r : Reading) (request : Request) (word : Option (List ℕ)) → words_read place ws r ≡ Ok request
      → IsSaid meant d word (part r.request.options) → IsSaid meant d (last_or s word (settings_from r.awaiting ws)) (part request.options)
  unfolding words_read
  last-of place [] r request word is so = subst (λ q. IsSaid meant d word (part q.options)) (ended place r request is) so
  last-of place (w ∷ ws) r request word is so =
      let on = goes place (one_read place w r) (λ next. words_read (place + 1) ws next) request is in
      one_of place w r on.0 on.1
      (λ t p some set e.
      let now : on.0.awaiting ≡ None = ap (λ n. n.awaiting) e in
      rw some (rw now at (last-of (place + 1) ws on.0 request (cond (is_same t s) (Some w) word) on.2 (subst (λ n. IsSaid meant d (cond (is_same t s) (Some w) word) (part n.request.options)) (sym e) (one-set t w word r.request.options p set so)))))
      (λ none read.
      rw none (rw (awaits place (word_meant w) r on.0 read) at (last-of (place + 1) ws on.0 request word on.2 (subst (IsSaid meant d word) (sym (keeps s part meant by place (word_meant w) r on.0 read)) so))))

-- Flags.

-- set before, or by a word that stands somewhere
abbrev marked : Bool → List ℕ → Bool
marked set places = cond (is_any places) true set

marked-so : (places : List ℕ) → marked true places ≡ true
marked-so [] = refl
marked-so (place ∷ places) = refl

marks : (is : Bool) (old new : Bool) (place : ℕ) (places : List ℕ) → new ≡ cond is true old → marked new places ≡ marked old (cond is (place ∷ places) places)
marks true old new place places e = ap (λ b. marked b places) e ∙ marked-so places
marks false old new place places e = ap (λ b. marked b places) e

-- A part of the options that one word sets by itself, and nothing else.
record Flag (flag : Meaning) (part : Options → Bool) : Type 0 where
  pub front : (o : Options) → part (with_stores (record o.stores { front = true }) o) ≡ cond (is_alike flag Front) true (part o)
  pub answers : (o : Options) → part (with_shown (record o.shown { answers = true }) o) ≡ cond (is_alike flag Answers) true (part o)
  pub quiet : (o : Options) → part (with_shown (record o.shown { quiet = true }) o) ≡ cond (is_alike flag Quiet) true (part o)
  pub help : (o : Options) → part (with_shown (record o.shown { help = true }) o) ≡ cond (is_alike flag Help) true (part o)
  pub sets : (t : Setting) → is_alike flag (Sets t) ≡ false
  pub file : is_alike flag File ≡ false
  pub kept : (t : Setting) (w : List ℕ) (o p : Options) → set_to t w o ≡ Ok p → part p ≡ part o

-- no word that is awaited sets one
abbrev flags : Options → Bool × Bool × Bool × Bool
flags o = (o.stores.front, o.shown.answers, o.shown.quiet, o.shown.help)

flags-kept : (t : Setting) (w : List ℕ) (o p : Options) → set_to t w o ≡ Ok p → flags p ≡ flags o
flags-kept Store w o p is = ap flags (store-set w o p is).2
flags-kept Orders w o p is = ap flags (limits-set w o p Orders is).2
flags-kept Executions w o p is = ap flags (limits-set w o p Executions is).2
flags-kept Symbols w o p is = ap flags (limits-set w o p Symbols is).2
flags-kept DayLimit w o p is = ap flags (limits-set w o p DayLimit is).2
flags-kept Book w o p is = ap flags (symbol-set w o p is).2

module _ (flag : Meaning) (part : Options → Bool) (by : Flag flag part) where
  flag-alone : (place : ℕ) (m : Meaning) (r next : Reading) (places : List ℕ) → word_read place m r ≡ Ok next
      → marked (part next.request.options) places ≡ marked (part r.request.options) (cond (is_alike flag m) (place ∷ places) places)
  flag-alone place m r next places is = marks (is_alike flag m) (part r.request.options) (part next.request.options) place places (by_meaning m is)
    where
      by_meaning : (m : Meaning) → word_read place m r ≡ Ok next → part next.request.options ≡ cond (is_alike flag m) true (part r.request.options)
      by_meaning Front is = ap (λ n. part n.request.options) (sym (ok-inj is)) ∙ by.front r.request.options
      by_meaning Answers is = ap (λ n. part n.request.options) (sym (ok-inj is)) ∙ by.answers r.request.options
      by_meaning Quiet is = ap (λ n. part n.request.options) (sym (ok-inj is)) ∙ by.quiet r.request.options
      by_meaning Help is = ap (λ n. part n.request.options) (sym (ok-inj is)) ∙ by.help r.request.options
      by_meaning (Sets t) is = ap (λ n. part n.request.options) (sym (ok-inj is)) ∙ ap (λ b. cond b true (part r.request.options)) (sym (by.sets t))
      by_meaning Unknown is = absurd (let f : ◌≡◌ {A = Result Reading Mistake} (Err mistake.Unknown) (Ok next) = is in cc)
      by_meaning File is = by_file r.request.file is ∙ ap (λ b. cond b true (part r.request.options)) (sym by.file)
        where
          by_file : (o : Option ℕ) → file_named place o r.request.options ≡ Ok next → part next.request.options ≡ part r.request.options
          by_file None is = ap (λ n. part n.request.options) (sym (ok-inj is))
          by_file (Some other) is = absurd (let f : ◌≡◌ {A = Result Reading Mistake} (Err mistake.SecondFile) (Ok next) = is in cc)

  flag-of : (words : List (List ℕ)) (request : Request) → request_of words ≡ Ok request → part defaults ≡ false → part request.options ≡ is_given flag words
  flag-of words request is unset =
      places_all (λ q. part q.options) flag marked (λ q t w p set. by.kept t w q.options p set) flag-alone 0 words nothing_read request is
      ∙ ap (λ b. marked b (places_of flag words)) unset ∙ marked-any (places_of flag words)
    where
      marked-any : (places : List ℕ) → marked false places ≡ is_any places
      marked-any [] = refl
      marked-any (place ∷ places) = refl

pub has_last : (words : List (List ℕ)) (result : Result Request Wrong) → result ≡ request_of words → IfOk result (λ request. HasLast words request)
has_last words (Err wrong) is = tt
has_last words (Ok request) is = record {
  store =
      last-of Store (λ o. o.stores.kind) kind_meant (record { set = kind-set; front = λ o. refl; answers = λ o. refl; quiet = λ o. refl; help = λ o. refl }) defaults.stores.kind
      0 words nothing_read request None (sym is) refl;
  orders =
      last-of Orders (λ o. o.room.orders) number_of (record { set = orders-set; front = λ o. refl; answers = λ o. refl; quiet = λ o. refl; help = λ o. refl }) defaults.room.orders
      0 words nothing_read request None (sym is) refl;
  executions =
      last-of Executions (λ o. o.room.executions) number_of (record { set = executions-set; front = λ o. refl; answers = λ o. refl; quiet = λ o. refl; help = λ o. refl }) defaults.room.executions
      0 words nothing_read request None (sym is) refl;
  symbols =
      last-of Symbols (λ o. o.room.symbols) number_of (record { set = symbols-set; front = λ o. refl; answers = λ o. refl; quiet = λ o. refl; help = λ o. refl }) defaults.room.symbols
      0 words nothing_read request None (sym is) refl;
  day_limit =
      last-of DayLimit (λ o. o.room.day_limit) number_of (record { set = day-limit-set; front = λ o. refl; answers = λ o. refl; quiet = λ o. refl; help = λ o. refl }) defaults.room.day_limit
      0 words nothing_read request None (sym is) refl;
  book =
      last-of Book (λ o. o.shown.book) book_meant (record { set = book-set; front = λ o. refl; answers = λ o. refl; quiet = λ o. refl; help = λ o. refl }) defaults.shown.book
      0 words nothing_read request None (sym is) refl;
  front =
      flag-of Front (λ o. o.stores.front) (record { front = λ o. refl; answers = λ o. refl; quiet = λ o. refl; help = λ o. refl; sets = λ t. refl; file = refl; kept = λ t w o p is. ap (λ f. f.0) (flags-kept t w o p is) })
      words request (sym is) refl;
  answers =
      flag-of Answers (λ o. o.shown.answers) (record { front = λ o. refl; answers = λ o. refl; quiet = λ o. refl; help = λ o. refl; sets = λ t. refl; file = refl; kept = λ t w o p is. ap (λ f. f.1) (flags-kept t w o p is) })
      words request (sym is) refl;
  quiet =
      flag-of Quiet (λ o. o.shown.quiet) (record { front = λ o. refl; answers = λ o. refl; quiet = λ o. refl; help = λ o. refl; sets = λ t. refl; file = refl; kept = λ t w o p is. ap (λ f. f.2) (flags-kept t w o p is) })
      words request (sym is) refl;
  help =
      flag-of Help (λ o. o.shown.help) (record { front = λ o. refl; answers = λ o. refl; quiet = λ o. refl; help = λ o. refl; sets = λ t. refl; file = refl; kept = λ t w o p is. ap (λ f. f.3) (flags-kept t w o p is) })
      words request (sym is) refl;
  file = sym (append-nil (option_to_list request.file)) ∙ files_all 0 words nothing_read request (sym is);
}

-- What a line asks for: its first word is the verb, and after it come as many words as the verb takes.
use Rattle.std.specs.Prelude.{ℕ, Bool, true, false, cond, List, [], ◌∷◌, Some, None, codes, Option, nat_le, option_map}
use Rattle.std.specs.Str.{bytes_eq}
use Rattle.calls.specs.declared.call.Call.{Call}
use Rattle.calls.specs.declared.call.Call.TheVariants.{Insert, Find, From, Replace, Remove, Stands, Count, Limit, Empty}
use Rattle.calls.specs.declared.call.Request.{Request}
use Rattle.calls.specs.declared.call.Request.TheVariants.{Open, Ask}
use Rattle.calls.specs.declared.verb.Verb.{Verb}
use Rattle.calls.specs.declared.verb.Verb.TheVariants as verb
use Rattle.words.specs.declared.kind.Kind.{Kind}
use Rattle.words.specs.Kinds.{kind_meant}
use Rattle.words.specs.Numbers.{number_of, one_of}
use Rattle.calls.specs.Verbs.{verb_meant}
use Rattle.words.specs.Words.{words, bare}

abbrev pub keyed : (ℕ → Call) → Option ℕ → Option Request
keyed call None = None
keyed call (Some k) = Some (Ask (call k))

-- two numbers
abbrev pub both : Option ℕ → Option ℕ → Option (ℕ × ℕ)
both None n = None
both (Some k) None = None
both (Some k) (Some n) = Some (k, n)

abbrev pub two_of : List (List ℕ) → Option (ℕ × ℕ)
two_of [] = None
two_of (w ∷ ws) = both (number_of w) (one_of ws)

abbrev pub paired : (ℕ → ℕ → Call) → Option (ℕ × ℕ) → Option Request
paired call None = None
paired call (Some p) = Some (Ask (call p.0 p.1))

-- a kind of store, and for how many records
abbrev pub sized : Bool → Option Kind → Option ℕ → Option Request
sized front None n = None
sized front (Some kind) None = None
sized front (Some kind) (Some n) = cond (nat_le n 4096) (Some (Open (record { front = front; kind = kind; limit = n }))) None

abbrev pub shaped_of : Bool → List (List ℕ) → Option Request
shaped_of front [] = None
shaped_of front (w ∷ ws) = sized front (kind_meant w) (one_of ws)

-- with the word front before it or not
abbrev pub opening_of : List (List ℕ) → Option Request
opening_of [] = None
opening_of (w ∷ ws) = cond (bytes_eq w (codes "front")) (shaped_of true ws) (shaped_of false (w ∷ ws))

abbrev pub verb_asks : Option Verb → List (List ℕ) → Option Request
verb_asks None ws = None
verb_asks (Some verb.Store) ws = opening_of ws
verb_asks (Some verb.Insert) ws = paired Insert (two_of ws)
verb_asks (Some verb.Find) ws = keyed Find (one_of ws)
verb_asks (Some verb.From) ws = keyed From (one_of ws)
verb_asks (Some verb.Replace) ws = paired Replace (two_of ws)
verb_asks (Some verb.Remove) ws = keyed Remove (one_of ws)
verb_asks (Some verb.Stands) ws = keyed Stands (one_of ws)
verb_asks (Some verb.Count) ws = option_map Ask (bare Count ws)
verb_asks (Some verb.Limit) ws = option_map Ask (bare Limit ws)
verb_asks (Some verb.Empty) ws = option_map Ask (bare Empty ws)

abbrev pub words_ask : List (List ℕ) → Option Request
words_ask [] = None
words_ask (w ∷ ws) = verb_asks (verb_meant w) ws

abbrev pub request_of : List ℕ → Option Request
request_of line = words_ask (words line)

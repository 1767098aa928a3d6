-- The names of the stores and of the loads.
use Rattle.std.specs.Prelude.{ℕ, Bool, true, false, cond, List, Some, None, Option, codes, take, drop, option_map}
use Rattle.std.specs.Str.{bytes_eq}
use Rattle.options.specs.declared.options.Stores.{Stores}
use Rattle.words.specs.declared.kind.Kind.{Kind}
use Rattle.words.specs.declared.kind.Kind.TheVariants.{Row, Hashed, Spread}
use Rattle.words.specs.Kinds.{kind_meant}
use Rattle.churn.specs.declared.load.Load.{Load}
use Rattle.churn.specs.declared.load.Load.TheVariants.{Gaps, Queue, Rising, Scattered}

abbrev pub named : (front : Bool) → Kind → List ℕ
named false Row = codes "row"
named false Hashed = codes "hashed"
named false Spread = codes "spread"
named true Row = codes "front-row"
named true Hashed = codes "front-hashed"
named true Spread = codes "front-spread"

abbrev pub store_name : Stores → List ℕ
store_name s = named s.front s.kind

-- stores of a kind, with a front before them or without one
abbrev pub fronted : (front : Bool) → Option Kind → Option Stores
fronted front kind = option_map (λ k. record { kind = k; front = front }) kind

-- the kind's word, behind "front-" where a front stands before the store
abbrev pub store_meant : List ℕ → Option Stores
store_meant w =
    cond (bytes_eq (take 6 w) (codes "front-")) (fronted true (kind_meant (drop 6 w)))
    (fronted false (kind_meant w))

abbrev pub load_name : Load → List ℕ
load_name Gaps = codes "gaps"
load_name Queue = codes "queue"
load_name Rising = codes "rising"
load_name Scattered = codes "scattered"

abbrev pub load_meant : List ℕ → Option Load
load_meant w =
    cond (bytes_eq w (codes "gaps")) (Some Gaps)
    (cond (bytes_eq w (codes "queue")) (Some Queue)
    (cond (bytes_eq w (codes "rising")) (Some Rising)
    (cond (bytes_eq w (codes "scattered")) (Some Scattered) None)))

-- Numbers that look random, and what each load adds and removes by them.
use Rattle.std.specs.Prelude.{ℕ, ◌+◌, ◌*◌, ◌/◌, ◌%◌, ◌^◌, ◌==◌, cond, List, length, bit_xor, slice_index, slice_set}
use Rattle.churn.specs.declared.feed.Feed.{Feed}
use Rattle.churn.specs.declared.load.Load.{Load}
use Rattle.churn.specs.declared.load.Load.TheVariants.{Gaps, Queue, Rising, Scattered}
use Rattle.churn.specs.declared.random.Random.{Random}

-- with its own bits, moved to the right by so many places, added without carry
abbrev pub right : (by : ℕ) → ℕ → ℕ
right by x = bit_xor x (x / 2 ^ by)

-- the same to the left, in 64 bits
abbrev pub left : (by : ℕ) → ℕ → ℕ
left by x = bit_xor x (x * 2 ^ by % 2 ^ 64)

-- the state goes on to the next by xorshift
unfoldable pub shifted : ℕ → ℕ
shifted x = right 27 (left 25 (right 12 x))

-- the state that every run begins with
abbrev pub seeded : Random
seeded = record { state = 0x9e3779b97f4a7c15 }

-- the numbers once one is drawn
abbrev pub random_after : Random → Random
random_after r = record { state = shifted r.state }

-- the number that is drawn: the next state times the multiplier of xorshift64*
abbrev pub random_number : Random → ℕ
random_number r = shifted r.state * 0x2545f4914f6cdd1d % 2 ^ 64

-- nothing added, nothing removed
abbrev pub begun : Load → Feed
begun load = record { load = load; random = seeded; last = 0; turn = 0 }

-- one more, in 64 bits
abbrev pub next_to : ℕ → ℕ
next_to n = (n + 1) % 2 ^ 64

-- the ID to add, by the load, the numbers and the ID added last
abbrev pub added_id : Load → Random → (last : ℕ) → ℕ
added_id Gaps r last = next_to ((last + random_number r % 40) % 2 ^ 64)
added_id Queue r last = next_to last
added_id Rising r last = next_to last
added_id Scattered r last = random_number r

-- the numbers after it, which only some loads draw on for their IDs
abbrev pub random_added : Load → Random → Random
random_added Gaps r = random_after r
random_added Queue r = r
random_added Rising r = r
random_added Scattered r = random_after r

-- the ID that a feed adds next
abbrev pub next_id : Feed → ℕ
next_id f = added_id f.load f.random f.last

-- the feed once that is added
abbrev pub id_taken : Feed → Feed
id_taken f = record f { random = random_added f.load f.random; last = next_id f }

-- the number that picks the next to die: its remainder by how many live is its place among them
abbrev pub dying : Load → Random → (turn : ℕ) → ℕ
dying Queue r turn = turn
dying Gaps r turn = random_number r
dying Rising r turn = random_number r
dying Scattered r turn = random_number r

-- the feed once that one is picked
abbrev pub death_taken : Load → Feed → Feed
death_taken Queue f = record f { turn = next_to f.turn }
death_taken Gaps f = record f { random = random_after f.random }
death_taken Rising f = record f { random = random_after f.random }
death_taken Scattered f = record f { random = random_after f.random }

-- where the next to die stands among the live IDs
abbrev pub death_place : Feed → (live : List ℕ) → ℕ
death_place f live = dying f.load f.random f.turn % length live

-- the ID to remove where another is added: that other where none lives
abbrev pub dead_id : Feed → (live : List ℕ) → (id : ℕ) → ℕ
dead_id f live id = cond (length live == 0) id (slice_index live (death_place f live))

-- the live IDs with the other in its place
abbrev pub live_after : Feed → (live : List ℕ) → (id : ℕ) → List ℕ
live_after f live id = cond (length live == 0) live (slice_set live (death_place f live) id)

-- the feed after it
abbrev pub exchanged : Feed → (live : List ℕ) → Feed
exchanged f live = cond (length live == 0) f (death_taken f.load f)

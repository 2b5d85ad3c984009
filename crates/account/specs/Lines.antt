-- The account of an input from its bytes alone, by demand 3's statements: how each packet fares, and what becomes of each
-- payload byte.
use Rattle.std.specs.Prelude.{Some, None, Ok, Err, ◌≡◌, ℕ, ◌+◌, ◌/◌, ◌%◌, ◌^◌, ◌<◌, ◌≤◌, List, [], ◌∷◌, ◌++◌, map, length, take, ◌≢◌, nat_eq, if◌then◌else◌}
use mathlib.Core.List.{flatten}
use Rattle.packet.specs.Header.{pid_of}
use Rattle.packet.specs.Ruling.{noneBefore}
use Rattle.collector.specs.Rules.{Kind, in-hand, done, Story, count_of}
use Rattle.collector.specs.Judged.{by_judge}
use Rattle.collector.specs.Collected.{bytes_counted, fresh_record}
use Rattle.history.specs.History.{Byte, history_of}
use Rattle.history.specs.Demand3.{delivered_in}
use Rattle.history.specs.Run.{Promised, Call, Run, Fare, refused_by, repeated, taken, Lent, fares_from, ruled_taken}
use Rattle.account.specs.Entered.{pieces}
use Rattle.account.specs.Heard.{Ended}
use Rattle.account.specs.Input.{rest_of}
use Rattle.account.specs.declared.tally.Account.{Account}

-- the packets of an input in order: each 188 bytes, and "a last piece under 188 bytes"
abbrev pub packets_of : List ℕ → List (List ℕ)
packets_of input = pieces (length input / 188) input ++ (if nat_eq (length input % 188) 0 then [] else rest_of input ∷ [])

-- the input cut every 188 bytes: each piece has 188 of them but the last, which has the rest
abbrev pub Cut : List (List ℕ) → Type 0
Cut [] = Unit {0}
Cut (p ∷ []) = (1 ≤ length p) × (length p ≤ 188)
Cut (p ∷ q ∷ ps) = (length p ≡ 188) × Cut (q ∷ ps)

-- the packets are that, and put together they are the input
abbrev pub CutAt188 : Type 0
CutAt188 = (input : List ℕ) → (flatten (packets_of input) ≡ input) × Cut (packets_of input)

-- "the PID .. is that of the first"
abbrev pub pid_in : List ℕ → ℕ
pid_in input = pid_of (take 188 input)

-- each is lent with rooms as small as they may be
abbrev pub lent : List ℕ → Lent
lent packet = record { packet = packet; room = 4280 }

abbrev pub lent_in : List ℕ → List Lent
lent_in input = map lent (packets_of input)

-- how each packet fares, by the packets alone
abbrev pub fares_in : List ℕ → List Fare
fares_in input = fares_from (pid_in input) 4096 noneBefore (lent_in input)

-- "A last piece under 188 bytes counts as refused (41)"
abbrev pub LastPieceRefused : Type 0
LastPieceRefused = (input : List ℕ) → (length input % 188 ≢ 0)
    → fares_in input
    ≡ fares_from (pid_in input) 4096 noneBefore (map lent (pieces (length input / 188) input)) ++ (refused_by 41 ∷ [])

-- the fate of every payload byte of the packets taken, and the sections that came whole
abbrev pub story_in : List ℕ → Story Byte
story_in input = (history_of by_judge (ruled_taken (pid_in input) 4096 noneBefore (lent_in input))).story

-- ---- counting

abbrev pub one_taken : Fare → ℕ
one_taken (refused_by n) = 0
one_taken repeated = 0
one_taken taken = 1

abbrev pub one_repeated : Fare → ℕ
one_repeated (refused_by n) = 0
one_repeated repeated = 1
one_repeated taken = 0

abbrev pub one_refused : Fare → ℕ
one_refused (refused_by n) = 1
one_refused repeated = 0
one_refused taken = 0

abbrev pub total : (Fare → ℕ) → List Fare → ℕ
total one [] = 0
total one (f ∷ fs) = one f + total one fs

-- ---- the lines

-- the account of an input of at least a packet, line by line; "`sections` counts accepted ones". The collector's counters
-- run round past 2^32 - 1, the program's own past 2^64 - 1.
pub record Lines (input : List ℕ) (a : Account) : Type 0 where
  pub pid_is : a.rec.pid ≡ pid_in input
  pub taken_is : a.taken ≡ total one_taken (fares_in input) % 2 ^ 64
  pub repeated_is : a.repeated ≡ total one_repeated (fares_in input) % 2 ^ 64
  pub refused_is : a.refused ≡ total one_refused (fares_in input) % 2 ^ 64
  pub counters_are : (k : Kind) → bytes_counted (done k) a.rec ≡ count_of (done k) (story_in input).marks % 2 ^ 32
  pub in_hand_is : a.rec.in_hand ≡ count_of in-hand (story_in input).marks
  pub sections_is : a.sections ≡ length (delivered_in (story_in input)) % 2 ^ 64

-- an account is a run of the collector: from a fresh record for that PID, a call for each packet in order, to the record
-- that the account has
pub record IsRun (input : List ℕ) (a : Account) : Type 0 where
  pub hold : List ℕ
  pub hold' : List ℕ
  pub calls : List Call
  pub hold_long : length hold ≡ 4096
  pub packets_are : map (λ k. k.packet) calls ≡ packets_of input
  pub run : Run Promised (fresh_record (pid_in input)) hold calls a.rec hold'

-- what the program says of an input that it has read to its end
abbrev pub Says : List ℕ → Ended → Type 0
Says input (Err failed) = ⊥
Says input (Ok None) = length input < 188
Says input (Ok (Some a)) = (188 ≤ length input) × IsRun input a × Lines input a

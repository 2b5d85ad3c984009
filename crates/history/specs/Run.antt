-- A sequence of calls of a collector, with any packet and any out room at each, and how the packets of one fare by the
-- packets alone.
use Rattle.std.specs.Prelude.{◌≡◌, ◌⊎◌, Bool, true, false, ◌||◌, List, [], ◌∷◌, ◌++◌, map, ℕ, zero, suc, ◌+◌, length, take, drop, ltb, eqb, if◌then◌else◌}
use Rattle.wire.specs.Each.{Each}
use Rattle.packet.specs.Header.{start_flag, control, counter_of, discontinuity, payload_from}
use Rattle.wire.specs.Sections.{total_of}
use Rattle.packet.specs.Ruling.{Before, mark_with, equal_to, Carried, hands_on, Ruling, load_of, ruling}
use Rattle.packet.specs.Refusals.{refusals}
use Rattle.packet.specs.Ruling as Ruled
use Rattle.collector.specs.Refusals.{too_small}
use Rattle.collector.specs.Answer.{Reply, Outcome}
use Rattle.collector.specs.Answer as Answer
use Rattle.collector.specs.Collected.{collected}
use Rattle.collector.specs.declared.Record.{Record}

-- ---- calls

-- what a collector may make of a record, a hold, an out room and a packet
abbrev pub Collector : Type 1
Collector = Record → List ℕ → List ℕ → List ℕ → Outcome → Type 0

-- what `step` and `collect` promise
abbrev pub Promised : Collector
Promised r hold out packet o = o ≡ collected r hold out packet

-- a call: the packet, the out room before and after it, and what the answer said
pub record Call : Type 0 where
  pub packet : List ℕ
  pub out : List ℕ
  pub out' : List ℕ
  pub said : Reply

-- what a caller brings to a call, besides the record and the hold
pub record Input : Type 0 where
  pub packet : List ℕ
  pub out : List ℕ

abbrev pub input_of : Call → Input
input_of k = record { packet = k.packet; out = k.out }

-- "hand record and hold on untouched": from a record and a hold, by calls, to a record and a hold
pub data Run (C : Collector) : Record → List ℕ → List Call → Record → List ℕ → Type 0 where
  no_call : {r : Record} {hold : List ℕ} → Run C r hold [] r hold
  one_call : {r r₁ r' : Record} {hold hold₁ hold' : List ℕ} {k : Call} {ks : List Call}
      → C r hold k.out k.packet (record { rec = r₁; hold = hold₁; out = k.out'; said = k.said })
      → Run C r₁ hold₁ ks r' hold' → Run C r hold (k ∷ ks) r' hold'

-- calls of the promise with these inputs, and where they lead
pub record RunOn (r : Record) (hold : List ℕ) (xs : List Input) : Type 0 where
  pub calls : List Call
  pub inputs : map input_of calls ≡ xs
  pub rec : Record
  pub last_hold : List ℕ
  pub run : Run Promised r hold calls rec last_hold

-- ---- how a packet fares, by the packets and the rooms' sizes alone

pub data Fare : Type 0 where
  refused_by : ℕ → Fare
  repeated : Fare
  taken : Fare

abbrev pub fare_of : Reply → Fare
fare_of (Answer.refused_with n) = refused_by n
fare_of Answer.repeated = repeated
fare_of (Answer.taken sections bytes) = taken

abbrev pub ruled_fare : Ruling → Fare
ruled_fare (Ruled.refuses n) = refused_by n
ruled_fare Ruled.repeated = repeated
ruled_fare (Ruled.bare splice) = taken
ruled_fare (Ruled.takes q) = taken

-- "the packets taken", by what the answers say: of each that has payload its counter, its start flag, whether it is
-- behind a mark, and its payload
abbrev pub if_said_taken : Bool → Fare → List ℕ → List (Carried ℕ)
if_said_taken mark (refused_by n) packet = []
if_said_taken mark repeated packet = []
if_said_taken mark taken packet =
    if eqb (control packet) 2 then []
    else load_of (mark || discontinuity packet) packet (payload_from packet) (start_flag packet) (counter_of packet) ∷ []

-- the mark after a packet, by what the answer says: set by the bit, and cleared by the next packet with payload
abbrev pub said_mark : Bool → Fare → List ℕ → Bool
said_mark mark (refused_by n) packet = mark
said_mark mark repeated packet = mark
said_mark mark taken packet = if eqb (control packet) 2 then mark || discontinuity packet else false

abbrev pub said_taken : Bool → List Call → List (Carried ℕ)
said_taken mark [] = []
said_taken mark (k ∷ ks) =
    if_said_taken mark (fare_of k.said) k.packet ++ said_taken (said_mark mark (fare_of k.said) k.packet) ks

-- the splices, by the packets that came: of each that was not refused and has the bit, with payload or without, how many
-- packets with payload were taken before it. No mark is noted.
abbrev pub if_spliced : ℕ → Fare → List ℕ → List ℕ
if_spliced n (refused_by m) packet = []
if_spliced n repeated packet = if discontinuity packet then n ∷ [] else []
if_spliced n taken packet = if discontinuity packet then n ∷ [] else []

abbrev pub splices_from : ℕ → List Call → List ℕ
splices_from n [] = []
splices_from n (k ∷ ks) =
    if_spliced n (fare_of k.said) k.packet
    ++ splices_from (n + length (if_said_taken false (fare_of k.said) k.packet)) ks

-- of a call, the packet and the size of the out room
pub record Lent : Type 0 where
  pub packet : List ℕ
  pub room : ℕ

abbrev pub lent_of : Call → Lent
lent_of k = record { packet = k.packet; room = length k.out }

-- what counts for the next packet
abbrev pub before_after : Before → Ruling → Before
before_after before (Ruled.refuses n) = before
before_after before Ruled.repeated = before
before_after before (Ruled.bare splice) = record { last = before.last; mark = mark_with before splice }
before_after before (Ruled.takes q) = hands_on q

abbrev pub ruled_in : Ruling → List (Carried ℕ)
ruled_in (Ruled.refuses n) = []
ruled_in Ruled.repeated = []
ruled_in (Ruled.bare splice) = []
ruled_in (Ruled.takes q) = q ∷ []

module _ (pid size : ℕ) where
  -- a run's record can stand exactly if its PID is one
  abbrev pub ruling_on : Before → Lent → Ruling
  ruling_on before x = ruling (too_small size x.room) (ltb 8191 pid) pid before x.packet

  -- how each packet of a run fares, and the packets taken that have payload
  abbrev pub fares_from : Before → List Lent → List Fare
  fares_from before [] = []
  fares_from before (x ∷ xs) = ruled_fare (ruling_on before x) ∷ fares_from (before_after before (ruling_on before x)) xs

  abbrev pub ruled_taken : Before → List Lent → List (Carried ℕ)
  ruled_taken before [] = []
  ruled_taken before (x ∷ xs) = ruled_in (ruling_on before x) ++ ruled_taken (before_after before (ruling_on before x)) xs

  -- what counts for the packet behind them
  abbrev pub before_from : Before → List Lent → Before
  before_from before [] = before
  before_from before (x ∷ xs) = before_from (before_after before (ruling_on before x)) xs

  -- "neither refused": no row of the table applies
  abbrev pub NotRefused : Lent → Type 0
  NotRefused x = Each (λ row. row.applies ≡ false) (refusals (too_small size x.room) (ltb 8191 pid) pid x.packet)

-- "nor, by document 01's rule, repeated", as amended: control 10; or the mark is set, or the packet sets it; or another
-- counter than the last
abbrev pub NotRepeated : Before → List ℕ → Type 0
NotRepeated before packet =
    (control packet ≡ 2)
    ⊎ (((before.mark ≡ true) ⊎ (discontinuity packet ≡ true)) ⊎ (equal_to before.last (counter_of packet) ≡ false))

-- ---- the sections that a call hands out: so many, cut off the front of the out room's bytes by their own headers

abbrev pub cut : ℕ → List ℕ → List (List ℕ)
cut zero bs = []
cut (suc n) bs = take (total_of bs) bs ∷ cut n (drop (total_of bs) bs)

abbrev pub handed_by : Reply → List ℕ → List (List ℕ)
handed_by (Answer.refused_with n) out = []
handed_by Answer.repeated out = []
handed_by (Answer.taken sections bytes) out = cut sections (take bytes out)

abbrev pub handed : List Call → List (List ℕ)
handed [] = []
handed (k ∷ ks) = handed_by k.said k.out' ++ handed ks

-- the bytes that an answer speaks of
abbrev pub bytes_by : Reply → List ℕ → List ℕ
bytes_by (Answer.refused_with n) out = []
bytes_by Answer.repeated out = []
bytes_by (Answer.taken sections bytes) out = take bytes out

-- how many bytes it says there are
abbrev pub told_by : Reply → ℕ
told_by (Answer.refused_with n) = 0
told_by Answer.repeated = 0
told_by (Answer.taken sections bytes) = bytes

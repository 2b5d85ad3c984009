-- Request (xii), "What a lost hour can't spoil", as statements about any collector: "take any two histories; if both then take the same packet with
-- payload and the start flag, everything delivered from beyond its pointer's target is the same, now and for all packets that follow alike, and so
-- are last counter, mark and bytes in hand. The byte counters, and the last rejected number until the next rejection of a section from beyond that
-- target, may differ."
use Rattle.std.specs.Prelude.{◌≡◌, Bool, true, false, ◌⊎◌, ℕ, ◌+◌, ◌%◌, ◌^◌, ◌≤◌, length, take, drop, ltb, if◌then◌else◌}
use mathlib.Core.List.{List, [], ◌∷◌, ◌++◌, map, flatten}
use Rattle.std.proofs.Math.Option.{some}
use Rattle.wire.specs.Each.{Each}
use Rattle.packet.specs.Header.{start_flag, pid_of, control, counter_of, discontinuity, payload_from, pointer_of}
use Rattle.packet.specs.Ruling.{Before, mark_with, joins, Carried}
use Rattle.collector.specs.Rules.{Kind, pointer, in-hand, done, Story, count_of, hand_of, given, holding, broken_off, plain, joined, goesOn, sections_in}
use Rattle.collector.specs.Judged.{by_judge, delivered_of, rejected_of, last_number}
use Rattle.collector.specs.Refusals.{before_of, Last}
use Rattle.collector.specs.Answer.{Outcome}
use Rattle.collector.specs.Answer as Answer
use Rattle.collector.specs.Collected.{bytes_counted, fresh_record}
use Rattle.collector.specs.declared.Record.{Record}
use Rattle.history.specs.History.{Byte, value_of, numbered, History, history_from, payloads_from}
use Rattle.history.specs.Run.{Collector, Call, input_of, Run, no_call, one_call, Fare, repeated, taken, fare_of, Lent, fares_from, ruled_taken, before_from, handed_by, handed, bytes_by, told_by}
use Rattle.history.specs.Demand3.{delivered_in, rejected_in}

-- ---- the packet

-- "with payload": adaptation control 01 or 11
abbrev pub HasPayload : List ℕ → Type 0
HasPayload packet = (control packet ≡ 1) ⊎ (control packet ≡ 3)

abbrev pub HasFlag : List ℕ → Type 0
HasFlag packet = start_flag packet ≡ true

-- "the same packet with payload and the start flag"
pub record Starts (packet : List ℕ) : Type 0 where
  pub payload : HasPayload packet
  pub flag : HasFlag packet

-- "beyond its pointer's target": from as many bytes behind the pointer on as it says
abbrev pub beyond_target : List ℕ → List ℕ
beyond_target packet = drop (payload_from packet + 1 + pointer_of packet) packet

-- ---- what comes from beyond the target, by the packets alone

-- a history that begins at the target, with nothing in hand; the packet has the number 0
abbrev pub from_target : List ℕ → History
from_target packet = record {
  last = some (counter_of packet);
  packets = 1;
  story = sections_in by_judge value_of (holding []) (numbered 0 (beyond_target packet));
}

-- what counts for the packet behind it
abbrev pub behind : List ℕ → Before
behind packet = record { last = some (counter_of packet); mark = false }

-- "packets that follow alike": of each call behind it, the packet, and whether the out room is too small. What the rooms hold may be anything.
pub record Following : Type 0 where
  pub packet : List ℕ
  pub small : Bool

abbrev pub following_of : Call → Following
following_of k = record { packet = k.packet; small = ltb (length k.out) 4280 }

-- with an out room that is too small or just suffices
abbrev pub lent_by : Following → Lent
lent_by x = record { packet = x.packet; room = if x.small then 0 else 4280 }

-- the PID is the packet's own, and the hold, with which it was taken, suffices
abbrev pub fares_behind : List ℕ → List Following → List Fare
fares_behind packet later = fares_from (pid_of packet) 4096 (behind packet) (map lent_by later)

abbrev pub taken_behind : List ℕ → List Following → List (Carried ℕ)
taken_behind packet later = ruled_taken (pid_of packet) 4096 (behind packet) (map lent_by later)

abbrev pub before_behind : List ℕ → List Following → Before
before_behind packet later = before_from (pid_of packet) 4096 (behind packet) (map lent_by later)

-- from the target on, over the packets that follow
abbrev pub since : List ℕ → List Following → Story Byte
since packet later = (history_from by_judge (from_target packet) (taken_behind packet later)).story

-- "everything delivered from beyond its pointer's target", and what is rejected
abbrev pub delivered_since : List ℕ → List Following → List (List ℕ)
delivered_since packet later = map (map value_of) (delivered_in (since packet later))

abbrev pub rejected_since : List ℕ → List Following → List (List ℕ)
rejected_since packet later = map (map value_of) (rejected_in (since packet later))

-- each byte beyond the target, and each byte of payload taken behind it, is in that story once, with its fate; there is no other
abbrev pub OnceSince : Type 0
OnceSince = (packet : List ℕ) (later : List Following)
    → map (λ m. m.byte) (since packet later).marks
    ≡ numbered 0 (beyond_target packet) ++ payloads_from 1 (taken_behind packet later)

-- ---- what comes before it

-- the story of what a record has in hand and of the packet's bytes up to the target, where "a section still unfinished .. is broken off"
abbrev pub until_target : Record → List ℕ → List ℕ → Story ℕ
until_target r hold packet =
    broken_off
    (goesOn by_judge plain
    (given (done pointer) (pointer_of packet)
    (joined (joins (before_of r).last (mark_with (before_of r) (discontinuity packet)) (counter_of packet))
    (holding (take r.in_hand hold))))
    (take (pointer_of packet) (drop (payload_from packet + 1) packet)))

-- the six counters, not yet run round, and the number of the last rejected section
pub record Tally : Type 0 where
  pub counted : Kind → ℕ
  pub number : ℕ

-- as they stand at the target
abbrev pub at_target : Record → List ℕ → List ℕ → Tally
at_target r hold packet = record {
  counted = λ k. bytes_counted (done k) r + count_of (done k) (until_target r hold packet).marks;
  number = last_number r.rejection (rejected_of (until_target r hold packet));
}

-- a record and a hold tell what came since, behind counters and a number that stood before
pub record ToldFrom (from : Tally) (r : Record) (hold : List ℕ) (s : Story Byte) : Type 0 where
  pub counters_are : (k : Kind) → bytes_counted (done k) r ≡ (from.counted k + count_of (done k) s.marks) % 2 ^ 32
  pub in_hand_is : r.in_hand ≡ count_of in-hand s.marks
  pub hold_is : take r.in_hand hold ≡ map value_of (hand_of s)
  pub number_is : r.rejection ≡ last_number from.number (map (map value_of) (rejected_in s))

-- ---- "last counter, mark and bytes in hand": their number, and the bytes

pub record State : Type 0 where
  pub last : Last
  pub mark : Bool
  pub in-hand : ℕ
  pub bytes : List ℕ

abbrev pub state_of : Record → List ℕ → State
state_of r hold = record { last = r.last; mark = r.mark; in-hand = r.in_hand; bytes = take r.in_hand hold }

-- as a run finds them, and as each of its calls leaves them
abbrev pub states_in : {C : Collector} {r r' : Record} {hold hold' : List ℕ} {ks : List Call} → Run C r hold ks r' hold' → List State
states_in {r = r} {hold = hold} no_call = state_of r hold ∷ []
states_in {r = r} {hold = hold} (one_call c rest) = state_of r hold ∷ states_in rest

-- ---- a history, from any record and any hold, fresh or made by hand: any calls; then one with the packet, which fares so; then later ones, after
-- any of which it may stop

module _ (C : Collector) (F : Fare → Type 0) where
  pub record Took (packet : List ℕ) : Type 0 where
    pub from : Record
    pub from_hold : List ℕ
    pub past : List Call
    pub at : Record
    pub at_hold : List ℕ
    pub came : Run C from from_hold past at at_hold
    pub out : List ℕ
    pub outcome : Outcome
    pub call : C at at_hold out packet outcome
    pub fared : F (fare_of outcome.said)
    pub later : List Call
    pub left : Record
    pub left_hold : List ℕ
    pub went_on : Run C outcome.rec outcome.hold later left left_hold

-- "if both then take"
abbrev pub IsTaken : Fare → Type 0
IsTaken f = f ≡ taken

abbrev pub IsRepeated : Fare → Type 0
IsRepeated f = f ≡ repeated

module _ {C : Collector} {F : Fare → Type 0} {packet : List ℕ} (t : Took C F packet) where
  abbrev pub followed : List Following
  followed = map following_of t.later

  abbrev pub until : Story ℕ
  until = until_target t.at t.at_hold packet

  abbrev pub target : Tally
  target = at_target t.at t.at_hold packet

  -- what the call with the packet hands out
  abbrev pub handed_now : List (List ℕ)
  handed_now = handed_by t.outcome.said t.outcome.out

  -- "everything delivered from beyond its pointer's target .., now": behind what ended before the target, at most one section, delivered or
  -- rejected, are those from beyond it
  pub record Now : Type 0 where
    pub sections_are : handed_now ≡ delivered_of until ++ delivered_since packet []
    pub one_before : length until.sections ≤ 1
    pub told_is : t.outcome.said ≡ Answer.taken (length handed_now) (length (flatten handed_now))
    pub bytes_are : bytes_by t.outcome.said t.outcome.out ≡ flatten handed_now

  -- all that the history comes to from the target on
  pub record FromTarget : Type 0 where
    pub now : Now
    pub fares_are : map (λ k. fare_of k.said) t.later ≡ fares_behind packet followed
    pub sections_are : delivered_since packet followed ≡ delivered_since packet [] ++ handed t.later
    pub bytes_are : Each (λ k. flatten (handed_by k.said k.out') ≡ bytes_by k.said k.out') t.later
    pub told_are : Each (λ k. length (flatten (handed_by k.said k.out')) ≡ told_by k.said) t.later
    pub pid_is : t.left.pid ≡ pid_of packet
    pub before_is : before_of t.left ≡ before_behind packet followed
    pub told_from : ToldFrom target t.left t.left_hold (since packet followed)

-- ---- two histories

-- call by call the same answer, with its numbers of sections and bytes, the same sections, and the same bytes
pub record SameCalls (ks js : List Call) : Type 0 where
  pub said : map (λ k. k.said) ks ≡ map (λ k. k.said) js
  pub sections : map (λ k. handed_by k.said k.out') ks ≡ map (λ k. handed_by k.said k.out') js
  pub bytes : map (λ k. bytes_by k.said k.out') ks ≡ map (λ k. bytes_by k.said k.out') js

module _ {C : Collector} {F G : Fare → Type 0} {packet : List ℕ} (a : Took C F packet) (b : Took C G packet) where
  -- a counter has grown by as many bytes in both from the target on, modulo 2^32
  pub record Grown (k : Kind) : Type 0 where
    pub more : ℕ
    pub one : bytes_counted (done k) a.left ≡ ((target a).counted k + more) % 2 ^ 32
    pub other : bytes_counted (done k) b.left ≡ ((target b).counted k + more) % 2 ^ 32

  -- the last rejected number is the same from the next rejection of a section from beyond the target on, and until then it is what it was there
  pub record Overwritten : Type 0 where
    pub since_then : (rejected_since packet (followed a) ≡ [] → ⊥) → a.left.rejection ≡ b.left.rejection
    pub one_until : rejected_since packet (followed a) ≡ [] → a.left.rejection ≡ (target a).number
    pub other_until : rejected_since packet (followed a) ≡ [] → b.left.rejection ≡ (target b).number

-- ---- what is delivered, and the state, said once more without a story: from the target on it goes with a history as with a fresh record that has
-- this packet first, and then the same packets and out rooms

pub record AsFresh {C : Collector} {packet : List ℕ} (t : Took C IsTaken packet) : Type 0 where
  pub new : Took C IsTaken packet
  pub is_fresh : new.at ≡ fresh_record t.at.pid
  pub no_past : new.past ≡ []
  pub same_rooms : (new.at_hold ≡ t.at_hold) × (new.out ≡ t.out)
  pub same_inputs : map input_of new.later ≡ map input_of t.later
  -- at most one section before those that the fresh one hands out
  pub before : List (List ℕ)
  pub one_before : length before ≤ 1
  pub now : handed_now t ≡ before ++ handed_now new
  pub from_then_on : SameCalls t.later new.later
  pub state : states_in t.went_on ≡ states_in new.went_on

-- ---- the statements

-- of one history: what comes from beyond the target, and all that the record tells but what stood before it, is fixed by the packets alone
abbrev pub ByPacketsSince : Collector → Type 0
ByPacketsSince C = (packet : List ℕ) → Starts packet → (t : Took C IsTaken packet) → FromTarget t

-- and a fresh record takes what any other took, and goes on alike
abbrev pub EachAsFresh : Collector → Type 0
EachAsFresh C = (packet : List ℕ) → Starts packet → (t : Took C IsTaken packet) → AsFresh t

-- of two: P is what is asked of the packet, F how it fares in the one, and G in the other
module _ (C : Collector) (P : List ℕ → Type 0) (F G : Fare → Type 0) where
  abbrev pub OverPairs : ((packet : List ℕ) → Took C F packet → Took C G packet → Type 0) → Type 0
  OverPairs Q = (packet : List ℕ) → P packet → (a : Took C F packet) (b : Took C G packet) → followed a ≡ followed b → Q packet a b

  -- "everything delivered from beyond its pointer's target is the same, now"
  abbrev pub SameNow : Type 0
  SameNow = OverPairs (λ packet a b. Now a × Now b)

  -- ".. and for all packets that follow alike"
  abbrev pub SameFromThenOn : Type 0
  SameFromThenOn = OverPairs (λ packet a b. SameCalls a.later b.later)

  -- ".. and so are last counter, mark and bytes in hand": after the packet, and after each that follows, refused and repeated ones among them
  abbrev pub SameState : Type 0
  SameState = OverPairs (λ packet a b. states_in a.went_on ≡ states_in b.went_on)

  -- "The byte counters .. may differ", and grow alike
  abbrev pub GrownAlike : Type 0
  GrownAlike = OverPairs (λ packet a b. (k : Kind) → Grown a b k)

  -- "and the last rejected number until the next rejection of a section from beyond that target, may differ"
  abbrev pub SameNumber : Type 0
  SameNumber = OverPairs (λ packet a b. Overwritten a b)

-- the sentence
pub record Heals (C : Collector) : Type 0 where
  pub now : SameNow C Starts IsTaken IsTaken
  pub from_then_on : SameFromThenOn C Starts IsTaken IsTaken
  pub state : SameState C Starts IsTaken IsTaken
  pub counters : GrownAlike C Starts IsTaken IsTaken
  pub number : SameNumber C Starts IsTaken IsTaken

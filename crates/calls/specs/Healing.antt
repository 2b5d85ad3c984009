-- Request (xii) for C, "a fade on the dish heals at the next section start": over histories of `lohitunga_collect` from any numbers, fresh or made by
-- hand. What comes from beyond the target is told by the packets alone, as it is for the collector.
use Rattle.std.specs.Prelude.{◌≡◌, refl, ℕ, ◌+◌, ◌%◌, ◌^◌, ◌≤◌, length, take, ltb}
use mathlib.Core.List.{List, [], ◌∷◌, ◌++◌, map, flatten}
use Rattle.collector.specs.Rules.{Kind, Story}
use Rattle.collector.specs.Judged.{delivered_of}
use Rattle.collector.specs.Collected.{fresh_record}
use Rattle.collector.specs.Answer.{refused_with, repeated, taken}
use Rattle.history.specs.Run as runs
use Rattle.history.specs.Run.{cut}
use Rattle.history.specs.Healing as beneath
use Rattle.history.specs.Healing.{Starts, Following, delivered_since, rejected_since, until_target, Tally, at_target}
use Rattle.history.specs.WrongCollectors.{hold₀, out₀}
use Rattle.history.specs.Fades.{common, behind_it}
use Rattle.cabinet.specs.Collect.{counted_in, numbers_with, record_in, record_says, collect_says, Outcome, leaves, collecting}
use Rattle.cabinet.specs.declared.collect.Record.{Record}
use Rattle.calls.specs.Collects.{Collector, Promised, Call, Run, no_call, one_call, call_says}

-- "packets that follow alike": of each call behind it, the packet, and whether the out room is too small
abbrev pub following_of : Call → Following
following_of k = record { packet = k.packet; small = ltb (length k.out) 4280 }

-- ---- last counter, mark and bytes in hand, in numbers

pub record State : Type 0 where
  pub last : ℕ
  pub mark : ℕ
  pub in-hand : ℕ
  pub bytes : List ℕ

abbrev pub state_of : Record → List ℕ → State
state_of r hold = record { last = r.last; mark = r.mark; in-hand = r.in_hand; bytes = take r.in_hand hold }

-- as a run finds them, and as each of its calls leaves them
abbrev pub states_in : {C : Collector} {r r' : Record} {hold hold' : List ℕ} {ks : List Call} → Run C r hold ks r' hold' → List State
states_in {r = r} {hold = hold} no_call = state_of r hold ∷ []
states_in {r = r} {hold = hold} (one_call c rest) = state_of r hold ∷ states_in rest

-- ---- a history: any record and any hold; any calls; then one with the packet, which is taken; then later ones

module _ (C : Collector) where
  pub record Took (packet : List ℕ) : Type 0 where
    pub from : Record
    pub from_hold : List ℕ
    pub past : List Call
    pub at : Record
    pub at_hold : List ℕ
    pub came : Run C from from_hold past at at_hold
    pub out : List ℕ
    pub outcome : Outcome
    pub call : C at at_hold out packet outcome
    pub not_refused : outcome.answer.number ≡ 0
    pub not_repeated : outcome.answer.repeated ≡ 0
    pub later : List Call
    pub left : Record
    pub left_hold : List ℕ
    pub went_on : Run C outcome.rec outcome.hold later left left_hold

module _ {C : Collector} {packet : List ℕ} (t : Took C packet) where
  abbrev pub followed : List Following
  followed = map following_of t.later

  abbrev pub until : Story ℕ
  until = until_target (record_in t.at) t.at_hold packet

  abbrev pub target : Tally
  target = at_target (record_in t.at) t.at_hold packet

  -- behind at most one section that ended before the target, those from beyond it; the answer tells as many, and their bytes
  pub record Now : Type 0 where
    pub sections_are : cut t.outcome.answer.sections (take t.outcome.answer.size t.outcome.out)
        ≡ delivered_of until ++ delivered_since packet []
    pub one_before : length until.sections ≤ 1
    pub number_told : t.outcome.answer.sections ≡ length (delivered_of until ++ delivered_since packet [])
    pub bytes_told : take t.outcome.answer.size t.outcome.out ≡ flatten (delivered_of until ++ delivered_since packet [])
    pub size_told : t.outcome.answer.size ≡ length (flatten (delivered_of until ++ delivered_since packet []))

-- ---- two histories

-- call by call the same answer, field by field, the same sections, and the same bytes
pub record SameCalls (ks js : List Call) : Type 0 where
  pub answers : map (λ k. k.answer) ks ≡ map (λ k. k.answer) js
  pub sections : map (λ k. cut k.answer.sections (take k.answer.size k.out')) ks
      ≡ map (λ k. cut k.answer.sections (take k.answer.size k.out')) js
  pub bytes : map (λ k. take k.answer.size k.out') ks ≡ map (λ k. take k.answer.size k.out') js

module _ {C : Collector} {packet : List ℕ} (a b : Took C packet) where
  -- a counter has grown by as many bytes in both from the target on, modulo 2^32
  pub record Grown (k : Kind) : Type 0 where
    pub more : ℕ
    pub one : counted_in k a.left ≡ ((target a).counted k + more) % 2 ^ 32
    pub other : counted_in k b.left ≡ ((target b).counted k + more) % 2 ^ 32

  -- the number is the same once a section from beyond the target was rejected, and until then it is what it was at the target
  pub record Overwritten : Type 0 where
    pub since_then : (rejected_since packet (followed a) ≡ [] → ⊥) → a.left.rejection ≡ b.left.rejection
    pub one_until : rejected_since packet (followed a) ≡ [] → a.left.rejection ≡ (target a).number
    pub other_until : rejected_since packet (followed a) ≡ [] → b.left.rejection ≡ (target b).number

  pub record Healed : Type 0 where
    pub now : Now a × Now b
    pub from_then_on : SameCalls a.later b.later
    pub state : states_in a.went_on ≡ states_in b.went_on
    pub counters : (k : Kind) → Grown k
    pub number : Overwritten

-- the sentence
abbrev pub Heals : Collector → Type 0
Heals C = (packet : List ℕ) → Starts packet → (a b : Took C packet) → followed a ≡ followed b → Healed a b

-- ---- from the packet on it is, in numbers, a history of the collector, so that what `history/Healing` says of one history holds of it

pub record Below {packet : List ℕ} (t : Took Promised packet) : Type 0 where
  pub under : beneath.Took runs.Promised beneath.IsTaken packet
  pub at_is : under.at ≡ record_in t.at
  pub rooms_are : (under.at_hold ≡ t.at_hold) × (under.out ≡ t.out) × (under.outcome.out ≡ t.outcome.out)
  pub answer_says : t.outcome.answer ≡ collect_says under.outcome.said
  pub later_say : t.later ≡ map call_says under.later
  pub left_says : t.left ≡ record_says under.left
  pub left_hold_is : under.left_hold ≡ t.left_hold

abbrev pub HistoriesBelow : Type 0
HistoriesBelow = (packet : List ℕ) → Starts packet → (t : Took Promised packet) → Below t

-- ---- histories of a call that makes one outcome, all with the least out rooms

abbrev pub Making : Type 0
Making = Record → List ℕ → List ℕ → List ℕ → Outcome

abbrev pub Makes : Making → Collector
Makes make r hold out packet o = o ≡ make r hold out packet

module _ (make : Making) where
  abbrev pub calls_with : Record → List ℕ → List (List ℕ) → List Call
  calls_with r hold [] = []
  calls_with r hold (p ∷ ps) =
      record { packet = p; out = out₀; out' = (make r hold out₀ p).out; answer = (make r hold out₀ p).answer }
      ∷ calls_with (make r hold out₀ p).rec (make r hold out₀ p).hold ps

  -- no past and no later calls
  abbrev pub alone : (r : Record) (hold packet : List ℕ) → (make r hold out₀ packet).answer.number ≡ 0
      → (make r hold out₀ packet).answer.repeated ≡ 0 → Took (Makes make) packet
  alone r hold packet not_refused not_repeated = record {
    from = r;
    from_hold = hold;
    past = [];
    at = r;
    at_hold = hold;
    came = no_call;
    out = out₀;
    outcome = make r hold out₀ packet;
    call = refl;
    not_refused = not_refused;
    not_repeated = not_repeated;
    later = [];
    left = (make r hold out₀ packet).rec;
    left_hold = (make r hold out₀ packet).hold;
    went_on = no_call;
  }

-- ---- the premises can be met: by fresh numbers, by numbers with the first byte of a section in hand, and by numbers made by hand, whose mark is set by
-- another number than 1 and whose counters are about to run round

abbrev pub fresh : Record
fresh = record_says (fresh_record 20)

abbrev pub halfway : Record
halfway = numbers_with 20 4 0 0 1 (λ k. 0)

abbrev pub byHand : Record
byHand = numbers_with 20 4 7 7 2 (λ k. 4294967295)

-- the packet is taken, with so many sections, the record's mark is 0 then, and the packets behind it are answered so
pub record Takes (r : Record) (hold : List ℕ) (sections : ℕ) : Type 0 where
  pub not_refused : (collecting r hold out₀ common).answer.number ≡ 0
  pub not_repeated : (collecting r hold out₀ common).answer.repeated ≡ 0
  pub as_many : (collecting r hold out₀ common).answer.sections ≡ sections
  pub mark : (collecting r hold out₀ common).rec.mark ≡ 0
  pub behind : map (λ k. k.answer)
      (calls_with collecting (collecting r hold out₀ common).rec (collecting r hold out₀ common).hold behind_it)
      ≡ map collect_says (taken 1 8 ∷ repeated ∷ refused_with 46 ∷ taken 0 0 ∷ taken 0 0 ∷ taken 0 0 ∷ [])

pub record PremisesMet : Type 0 where
  pub starts : Starts common
  pub from_fresh_lem : Takes fresh hold₀ 1
  -- it alone delivers a section before the target
  pub from_halfway : Takes halfway (0x70 ∷ hold₀) 2
  pub from_hand : Takes byHand (0x70 ∷ 0x70 ∷ hold₀) 1

-- ---- a wrong one that the statement shuts out: the mark survives

abbrev pub mark_survives : Making
mark_survives r hold out packet =
    let o = collecting r hold out packet in
    leaves (numbers_with o.rec.pid o.rec.last r.mark o.rec.rejection o.rec.in_hand (λ k. counted_in k o.rec))
    o.hold o.out o.answer

abbrev pub ShutOut : Type 0
ShutOut = Heals (Makes mark_survives) → ⊥

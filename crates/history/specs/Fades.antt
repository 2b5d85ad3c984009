-- Request (xii) at work: histories in pairs, computed. They show that its premises can be met; that what it leaves open does differ, and that each of
-- its premises is needed, for what would be stronger is false; and that each statement shuts out a wrong collector.
use Rattle.std.specs.Prelude.{◌≡◌, refl, Bool, true, false, ◌||◌, List, [], ◌∷◌, ◌++◌, map, ℕ, length, take, drop, replicate, ltb, if◌then◌else◌, None, Some}
use Rattle.packet.specs.Ruling.{joins, Ruling, refuses, repeated, bare, takes, ruling}
use Rattle.collector.specs.Rules.{Kind, pointer, done, Story, given, holding, plain, joined, goesOn, sections_in}
use Rattle.collector.specs.Judged.{by_judge}
use Rattle.collector.specs.Refusals.{before_of, cannot_stand, too_small, Last}
use Rattle.collector.specs.Answer.{Reply, refused_with, taken, Outcome}
use Rattle.collector.specs.Answer as Answer
use Rattle.collector.specs.Collected.{bytes_counted, record_with, fresh_record, outcome_after, outcome_of, collected}
use Rattle.collector.specs.declared.Record.{Record}
use Rattle.history.specs.Run.{Collector, Promised, Call, Run, no_call, one_call, Fare, fare_of, handed}
use Rattle.history.specs.Run as R
use Rattle.history.specs.Healing.{HasPayload, HasFlag, Starts, Following, fares_behind, delivered_since, rejected_since, Took, IsTaken, IsRepeated, followed, handed_now, OverPairs, SameNow, SameFromThenOn, SameState, GrownAlike, SameNumber}
use Rattle.history.specs.WrongCollectors.{hold₀, out₀, rest_of_it, bare_splice, worked, keeps_first, collected_by}
use Rattle.history.specs.AtWork as story
use Rattle.history.specs.AtWork.{tdt, starts}

-- ---- histories of a collector that makes one outcome of each call, all with the least rooms

abbrev pub Making : Type 0
Making = Record → List ℕ → List ℕ → List ℕ → Outcome

-- what the promise makes is `collected`
abbrev pub Makes : Making → Collector
Makes make r hold out packet o = o ≡ make r hold out packet

-- a record and a hold, as a call finds them
pub record Found : Type 0 where
  pub rec : Record
  pub hold : List ℕ

module _ (make : Making) where
  abbrev pub made : Found → List ℕ → Outcome
  made f packet = make f.rec f.hold out₀ packet

  abbrev pub leftBy : Found → List ℕ → Found
  leftBy f packet = record { rec = (made f packet).rec; hold = (made f packet).hold }

  -- calls with these packets, what they leave, and that this is a run
  abbrev pub calls_with : Found → List (List ℕ) → List Call
  calls_with f [] = []
  calls_with f (p ∷ ps) =
      record { packet = p; out = out₀; out' = (made f p).out; said = (made f p).said } ∷ calls_with (leftBy f p) ps

  abbrev pub left_with : Found → List (List ℕ) → Found
  left_with f [] = f
  left_with f (p ∷ ps) = left_with (leftBy f p) ps

  abbrev pub run_with : (f : Found) (ps : List (List ℕ))
      → Run (Makes make) f.rec f.hold (calls_with f ps) (left_with f ps).rec (left_with f ps).hold
  run_with f [] = no_call
  run_with f (p ∷ ps) = one_call refl (run_with (leftBy f p) ps)

  -- from there by the packets of the past, then the packet, which fares so, then those that follow
  abbrev pub tale : {F : Fare → Type 0} → (f : Found) (past : List (List ℕ)) (packet : List ℕ) (later : List (List ℕ))
      → F (fare_of (made (left_with f past) packet).said) → Took (Makes make) F packet
  tale f past packet later fared = record {
    from = f.rec;
    from_hold = f.hold;
    past = calls_with f past;
    at = (left_with f past).rec;
    at_hold = (left_with f past).hold;
    came = run_with f past;
    out = out₀;
    outcome = made (left_with f past) packet;
    call = refl;
    fared = fared;
    later = calls_with (leftBy (left_with f past) packet) later;
    left = (left_with (leftBy (left_with f past) packet) later).rec;
    left_hold = (left_with (leftBy (left_with f past) packet) later).hold;
    went_on = run_with (leftBy (left_with f past) packet) later;
  }

-- ---- packets

-- up to the pointer's target all of a TDT but its first byte; beyond it another TDT, and the beginning of a third
abbrev pub common : List ℕ
common = starts 5 (7 ∷ rest_of_it ++ (tdt ++ (0x70 ∷ 0x70 ∷ [])))

-- the rest of that one; the same again; a packet of another PID; a section that is rejected with 4; a splice without payload; and bytes behind it
abbrev pub behind_it : List (List ℕ)
behind_it =
    story.goesOn 6 (drop 2 tdt)
    ∷ story.goesOn 6 (drop 2 tdt)
    ∷ (0x47 ∷ 0x00 ∷ 0x15 ∷ 0x17 ∷ replicate 184 0)
    ∷ starts 7 (0 ∷ 0x70 ∷ 0x70 ∷ 0x00 ∷ [])
    ∷ bare_splice
    ∷ story.goesOn 8 (1 ∷ 2 ∷ [])
    ∷ []

-- with an out room that is not too small
abbrev pub following : List ℕ → Following
following packet = record { packet = packet; small = false }

-- with the first byte of a TDT, beyond a pointer 0
abbrev pub begins : ℕ → List ℕ
begins counter = starts counter (0 ∷ 0x70 ∷ [])

-- a section that is rejected with 2, beyond a pointer 0
abbrev pub with-2 : ℕ → List ℕ
with-2 counter = starts counter (0 ∷ 0x00 ∷ 0x00 ∷ 0x00 ∷ [])

-- ---- pasts

abbrev pub fresh : Found
fresh = record { rec = fresh_record 20; hold = hold₀ }

-- the packet before it left a first byte in hand
abbrev pub halfway : List (List ℕ)
halfway = begins 4 ∷ []

-- another did, and then a splice came
abbrev pub marked : List (List ℕ)
marked = begins 9 ∷ bare_splice ∷ []

-- bytes of each fate: skipped; a pointer, a TDT, a section that is rejected with 4, filler; and a byte that a break will break off
abbrev pub busy : List (List ℕ)
busy =
    story.goesOn 0 (1 ∷ 2 ∷ 3 ∷ [])
    ∷ starts 1 (0 ∷ tdt ++ (0x70 ∷ 0x70 ∷ 0x00 ∷ 0xFF ∷ []))
    ∷ begins 2
    ∷ []

-- none, but a record made by hand, whose counters are about to run round, and a larger hold
abbrev pub byHand : Found
byHand = record { rec = record_with 20 (Some 4) true 7 2 (λ k. 4294967295); hold = 0x70 ∷ 0x70 ∷ hold₀ }

-- ---- the premises can be met, by histories of each kind, any two of which make a pair

abbrev pub Takes : Found → List (List ℕ) → List ℕ → Type 0
Takes f past packet = IsTaken (fare_of (made collected (left_with collected f past) packet).said)

-- the packet is taken, with these sections, the same packets follow, and hand out one
pub record Shows (f : Found) (past now : List (List ℕ)) : Type 0 where
  pub takes_it : Takes f past common
  pub follow : followed (tale collected {F = IsTaken} f past common behind_it takes_it) ≡ map following behind_it
  pub hands_now : handed_now (tale collected {F = IsTaken} f past common behind_it takes_it) ≡ now
  pub hands_later : handed (tale collected {F = IsTaken} f past common behind_it takes_it).later ≡ tdt ∷ []

pub record PremisesMet : Type 0 where
  pub starts-11 : Starts common
  pub from_fresh_lem : Shows fresh [] (tdt ∷ [])
  -- it alone delivers a section before the target
  pub from_halfway : Shows fresh halfway ((0x70 ∷ rest_of_it) ∷ tdt ∷ [])
  pub from_marked : Shows fresh marked (tdt ∷ [])
  pub from_busy : Shows fresh busy (tdt ∷ [])
  pub from_hand : Shows byHand [] (tdt ∷ [])
  -- what comes from beyond the target, by the packets alone
  pub since_now : delivered_since common [] ≡ tdt ∷ []
  pub since_later : delivered_since common (map following behind_it) ≡ tdt ∷ tdt ∷ []
  pub since_rejected : rejected_since common (map following behind_it) ≡ (0x70 ∷ 0x70 ∷ 0x00 ∷ []) ∷ []
  pub fares : fares_behind common (map following behind_it)
      ≡ R.taken ∷ R.repeated ∷ R.refused_by 46 ∷ R.taken ∷ R.taken ∷ R.taken ∷ []
  -- and with adaptation control 01
  pub starts-01 : Starts (worked 5)
  pub takes-01 : Takes fresh halfway (worked 5) × Takes fresh marked (worked 5)

-- ---- what a loss can spoil up to there: "A loss of 16 packets shows no break; the CRC is left to catch it."

-- the TDT of a day and an hour later, and the two cut in front of their time of day
abbrev pub day_later : List ℕ
day_later = 0x70 ∷ 0x70 ∷ 0x05 ∷ 0xC0 ∷ 0x7A ∷ 0x13 ∷ 0x45 ∷ 0x00 ∷ []

abbrev pub heads : List ℕ → List ℕ
heads s = starts 4 (0 ∷ take 5 s)

abbrev pub tails : List ℕ → List ℕ
tails s = story.goesOn 5 (drop 5 s)

-- what comes between the head of the one and that of the other
abbrev pub fifteen : List (List ℕ)
fifteen = tails tdt ∷ map (λ c. story.goesOn c (1 ∷ [])) (6 ∷ 7 ∷ 8 ∷ 9 ∷ 10 ∷ 11 ∷ 12 ∷ 13 ∷ 14 ∷ 15 ∷ 0 ∷ 1 ∷ 2 ∷ 3 ∷ [])

abbrev pub complete : List (List ℕ)
complete = heads tdt ∷ fifteen ++ (heads day_later ∷ tails day_later ∷ [])

-- sixteen are lost: those and the head behind them
abbrev pub faded : List (List ℕ)
faded = heads tdt ∷ tails day_later ∷ []

-- a TDT that nobody sent, for it has no CRC_32: the day of the one, the time of the other
abbrev pub joined_up : List ℕ
joined_up = 0x70 ∷ 0x70 ∷ 0x05 ∷ 0xC0 ∷ 0x79 ∷ 0x13 ∷ 0x45 ∷ 0x00 ∷ []

pub record LossOfSixteen : Type 0 where
  pub as_many : length fifteen ≡ 15
  pub sent : handed (calls_with collected fresh complete) ≡ tdt ∷ day_later ∷ []
  pub lost_sixteen : handed (calls_with collected fresh faded) ≡ joined_up ∷ []
  -- of fifteen no more is seen: the packet behind them has the counter of the last one, and is called repeated
  pub lost_fifteen : handed (calls_with collected fresh (heads tdt ∷ heads day_later ∷ tails day_later ∷ [])) ≡ joined_up ∷ []
  -- with seventeen lost there is a break
  pub lost_seventeen : handed (calls_with collected fresh (heads tdt ∷ story.goesOn 6 (drop 5 day_later) ∷ [])) ≡ []
  -- the next start is taken in each, and heals
  pub each_takes : Takes fresh complete (begins 6) × Takes fresh faded (begins 6)

-- ---- stronger statements, which are false

module _ (C : Collector) where
  -- that a counter is the same
  abbrev pub CounterSame : Kind → Type 0
  CounterSame k = OverPairs C Starts IsTaken IsTaken (λ packet a b. bytes_counted (done k) a.left ≡ bytes_counted (done k) b.left)

  -- that the last rejected number is the same at once
  abbrev pub NumberSame : Type 0
  NumberSame = OverPairs C Starts IsTaken IsTaken (λ packet a b. a.left.rejection ≡ b.left.rejection)

  -- that what is delivered before the target is the same
  abbrev pub HandedSame : Type 0
  HandedSame = OverPairs C Starts IsTaken IsTaken (λ packet a b. handed_now a ≡ handed_now b)

pub record Stronger : Type 0 where
  pub counters_may_differ : (k : Kind) → CounterSame Promised k → ⊥
  pub number_may_differ : NumberSame Promised → ⊥
  pub before_target_may_differ : HandedSame Promised → ⊥
  -- without the flag, without payload, and where one history calls the packet repeated
  pub needs_start_flag : (SameState Promised HasPayload IsTaken IsTaken → ⊥) × (SameFromThenOn Promised HasPayload IsTaken IsTaken → ⊥)
  pub needs_payload : (SameState Promised HasFlag IsTaken IsTaken → ⊥) × (SameFromThenOn Promised HasFlag IsTaken IsTaken → ⊥)
  pub needs_taken : (SameState Promised Starts IsTaken IsRepeated → ⊥) × (SameFromThenOn Promised Starts IsTaken IsRepeated → ⊥)

-- ---- wrong collectors

-- one that keeps a section over the target that is unfinished there
abbrev pub kept_over : Bool → Story ℕ → List ℕ → Story ℕ
kept_over true s [] = s
kept_over true s (p ∷ bs) = sections_in by_judge plain (goesOn by_judge plain (given (done pointer) p s) (take p bs)) (drop p bs)
kept_over false s bs = goesOn by_judge plain s bs

abbrev pub keeping_over : Record → List ℕ → List ℕ → Ruling → Outcome
keeping_over r hold out (refuses n) = outcome_of r hold out (refuses n)
keeping_over r hold out repeated = outcome_of r hold out repeated
keeping_over r hold out (bare splice) = outcome_of r hold out (bare splice)
keeping_over r hold out (takes q) =
    outcome_after r hold out q.counter
    (kept_over q.start (joined (joins (before_of r).last q.spliced q.counter) (holding (take r.in_hand hold))) q.bytes)

abbrev pub forgets_to_break : Making
forgets_to_break r hold out packet =
    keeping_over r hold out (ruling (too_small (length hold) (length out)) (cannot_stand r hold) r.pid (before_of r) packet)

-- an outcome with another record
abbrev pub with_record : Record → Outcome → Outcome
with_record r o = record { rec = r; hold = o.hold; out = o.out; said = o.said }

-- one that keeps the first counter that it had
abbrev pub first_last : Last → Last → Last
first_last None now = now
first_last (Some c) now = Some c

abbrev pub counter_stays : Making
counter_stays r hold out packet =
    let o = collected r hold out packet in
    with_record
    (record_with o.rec.pid (first_last r.last o.rec.last) o.rec.mark o.rec.rejection o.rec.in_hand
    (λ k. bytes_counted (done k) o.rec))
    o

-- one that leaves the first byte in hand where it was
abbrev pub under_first : Bool → List ℕ → List ℕ → List ℕ
under_first true was now = take 1 was ++ drop 1 now
under_first false was now = now

abbrev pub first_byte_stays : Making
first_byte_stays r hold out packet =
    let o = collected r hold out packet in
    record { rec = o.rec; hold = under_first (ltb 0 r.in_hand) hold o.hold; out = o.out; said = o.said }

-- one whose mark is not cleared
abbrev pub mark_survives : Making
mark_survives r hold out packet =
    let o = collected r hold out packet in
    with_record
    (record_with o.rec.pid o.rec.last (r.mark || o.rec.mark) o.rec.rejection o.rec.in_hand
    (λ k. bytes_counted (done k) o.rec))
    o

-- one whose counters stop at their top
abbrev pub stopping : ℕ → ℕ → ℕ
stopping was now = if ltb now was then 4294967295 else now

abbrev pub counters_stop : Making
counters_stop r hold out packet =
    let o = collected r hold out packet in
    with_record
    (record_with o.rec.pid o.rec.last o.rec.mark o.rec.rejection o.rec.in_hand
    (λ k. stopping (bytes_counted (done k) r) (bytes_counted (done k) o.rec)))
    o

-- one that hands out nothing once a section was rejected
abbrev pub silent : Reply → Reply
silent (refused_with n) = refused_with n
silent Answer.repeated = Answer.repeated
silent (taken sections bytes) = taken 0 0

abbrev pub falls_silent : Making
falls_silent r hold out packet =
    let o = collected r hold out packet in
    if ltb 0 r.rejection then record { rec = o.rec; hold = o.hold; out = out; said = silent o.said } else o

pub record ShutOut : Type 0 where
  pub forgets_to_break_lem : SameState (Makes forgets_to_break) Starts IsTaken IsTaken → ⊥
  pub counter_stays_lem : SameState (Makes counter_stays) Starts IsTaken IsTaken → ⊥
  pub first_byte_stays_lem : SameState (Makes first_byte_stays) Starts IsTaken IsTaken → ⊥
  pub mark_survives_lem : SameState (Makes mark_survives) Starts IsTaken IsTaken → ⊥
  -- the number is the first one for ever
  pub remembers_rejection : SameNumber (Makes (collected_by keeps_first)) Starts IsTaken IsTaken → ⊥
  pub counters_stop_lem : GrownAlike (Makes counters_stop) Starts IsTaken IsTaken → ⊥
  pub falls_silent_lem : (SameNow (Makes falls_silent) Starts IsTaken IsTaken → ⊥) × (SameFromThenOn (Makes falls_silent) Starts IsTaken IsTaken → ⊥)

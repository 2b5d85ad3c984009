-- Demand 3 for C: "Start a fresh collector, feed it any packets, hand record and hold on untouched." What whole runs of
-- `lohitunga_collect` come to is what runs of the collector come to, said in numbers.
use Rattle.std.specs.Prelude.{◌≡◌, true, ◌↔◌, List, [], ◌∷◌, ◌++◌, map, ℕ, take, None, Some}
use Rattle.collector.specs.Rules.{Kind}
use Rattle.collector.specs.Answer.{Reply}
use Rattle.collector.specs.Answer as Answer
use Rattle.collector.specs.Collected.{fresh_record}
use Rattle.history.specs.Run as beneath
use Rattle.history.specs.Run.{cut}
use Rattle.collector.specs.Refusals.{Last}
use Rattle.collector.specs.declared.Record as of
use Rattle.cabinet.specs.Collect.{last_in, mark_in, SameName, record_in, record_says, collect_says, Outcome, leaves, collecting}
use Rattle.cabinet.specs.declared.collect.Record.{Record}
use Rattle.cabinet.specs.declared.collect.CollectAnswer.{CollectAnswer}

-- ---- a record and an answer in numbers, field by field

-- "the last counter or none": 255 is none
pub data LastIs : ℕ → Last → Type 0 where
  none : LastIs 255 None
  counter : {n : ℕ} → (n ≡ 255 → ⊥) → LastIs n (Some n)

-- the numbers stand for the record
pub record Stands (r : Record) (x : of.Record) : Type 0 where
  pub pid : x.pid ≡ r.pid
  pub last : LastIs r.last x.last
  -- any number but 0 is a mark that is set
  pub mark : (x.mark ≡ true) ↔ (r.mark ≡ 0 → ⊥)
  -- any number above 10 gets 43
  pub rejection : x.rejection ≡ r.rejection
  pub in-hand : x.in_hand ≡ r.in_hand
  pub counters : (k : Kind) → SameName r x k

-- the answer tells what is said, and is 0 elsewhere: a refusal's number; "repeated"; or taken, with the number of
-- accepted sections and of their bytes
pub data Tells : Reply → CollectAnswer → Type 0 where
  tells_refused : {k : ℕ} {a : CollectAnswer} → a.number ≡ k → a.repeated ≡ 0 → a.sections ≡ 0 → a.size ≡ 0
      → Tells (Answer.refused_with k) a
  tells_repeated : {a : CollectAnswer} → a.number ≡ 0 → a.repeated ≡ 1 → a.sections ≡ 0 → a.size ≡ 0
      → Tells Answer.repeated a
  tells_taken : {n b : ℕ} {a : CollectAnswer} → a.number ≡ 0 → a.repeated ≡ 0 → a.sections ≡ n → a.size ≡ b
      → Tells (Answer.taken n b) a

-- ---- calls

-- what a collector for C may make of a record, a hold, an out room and a packet
abbrev pub Collector : Type 1
Collector = Record → List ℕ → List ℕ → List ℕ → Outcome → Type 0

-- what `lohitunga_fresh` promises
abbrev pub PromisedFresh : ℕ → Record → Type 0
PromisedFresh pid r = r ≡ record_says (fresh_record pid)

-- what `lohitunga_collect` promises
abbrev pub Promised : Collector
Promised r hold out packet o = o ≡ collecting r hold out packet

-- ---- what stays of the numbers, whatever they are

-- a number is rewritten only where its meaning changes
pub record Kept (r r' : Record) : Type 0 where
  pub pid : r'.pid ≡ r.pid
  pub last : last_in r'.last ≡ last_in r.last → r'.last ≡ r.last
  pub mark : mark_in r'.mark ≡ mark_in r.mark → r'.mark ≡ r.mark
  -- an acceptance leaves the number of the last rejected section, and so does a packet that finishes none
  pub rejection : r'.rejected ≡ r.rejected → r'.rejection ≡ r.rejection
  -- so a record that means the same is the same, byte for byte: it has no padding
  pub whole : record_in r' ≡ record_in r → r' ≡ r

abbrev pub KeepsNumbers : Collector → Type 0
KeepsNumbers C = (r : Record) (hold out packet : List ℕ) (o : Outcome) → C r hold out packet o → Kept r o.rec

-- ---- runs

-- a call: the packet, the out room before and after it, and the answer
pub record Call : Type 0 where
  pub packet : List ℕ
  pub out : List ℕ
  pub out' : List ℕ
  pub answer : CollectAnswer

-- "hand record and hold on untouched": from a record and a hold, by calls, to a record and a hold
pub data Run (C : Collector) : Record → List ℕ → List Call → Record → List ℕ → Type 0 where
  no_call : {r : Record} {hold : List ℕ} → Run C r hold [] r hold
  one_call : {r r₁ r' : Record} {hold hold₁ hold' : List ℕ} {k : Call} {ks : List Call}
      → C r hold k.out k.packet (leaves r₁ hold₁ k.out' k.answer) → Run C r₁ hold₁ ks r' hold'
      → Run C r hold (k ∷ ks) r' hold'

-- of each run from a fresh record, which may stop after any packet, by its PID, its hold at the start, its calls, and its
-- record and hold at the end
abbrev pub OverRuns : Collector → (ℕ → List ℕ → List Call → Record → List ℕ → Type 0) → Type 0
OverRuns C P = (pid : ℕ) (fresh : Record) (hold : List ℕ) (calls : List Call) (r : Record) (hold' : List ℕ)
    → PromisedFresh pid fresh → Run C fresh hold calls r hold' → P pid hold calls r hold'

-- the sections that the calls hand out: as many as each tells, cut by their own headers off the bytes that it tells
abbrev pub handedOut : List Call → List (List ℕ)
handedOut [] = []
handedOut (k ∷ ks) = cut k.answer.sections (take k.answer.size k.out') ++ handedOut ks

-- a call of the collector in numbers
abbrev pub call_says : beneath.Call → Call
call_says k = record { packet = k.packet; out = k.out; out' = k.out'; answer = collect_says k.said }

-- a run of the collector, from a record, of which this is what is told in numbers
pub record Beneath (from : of.Record) (hold : List ℕ) (calls : List Call) (r : Record) (hold' : List ℕ) : Type 0 where
  pub under : List beneath.Call
  pub rec : of.Record
  pub run : beneath.Run beneath.Promised from hold under rec hold'
  pub calls_say : calls ≡ map call_says under
  pub record_says_lem : r ≡ record_says rec
  pub record_stands : Stands r rec

-- a run from a fresh record is a run of the collector from a fresh record
abbrev pub RunsBeneath : Collector → Type 0
RunsBeneath C = OverRuns C (λ pid hold calls r hold'. Beneath (fresh_record pid) hold calls r hold')

-- Laws that go through the kinds, or through the ways of a stretch's rest, one by one: the list of kinds has each once, and
-- a record counts what it is made with.
use Rattle.std.proofs.Common.{◌≡◌, ℕ, ◌+◌, ◌≤◌, Bool, false, List, [], ◌∷◌, refl, arith}
use Rattle.std.specs.Prelude.{if◌then◌else◌}
use Rattle.collector.specs.Rules.{Kind, pointer, accepted, rejected, broken, by_kind, Fate, done, sameKind, kinds, sum_of, Rest, filling, skipping, breaking, kind_of}
use Rattle.collector.specs.Collected.{bytes_counted, record_with}
use Rattle.collector.specs.Inner.Stretch.{gain_of, gain_with, Small}
use Rattle.collector.specs.Inner.Taking.{point_count, added_by}
use Rattle.collector.specs.Refusals.{Last}
use Rattle.collector.specs.declared.Record.{Record}
use Rattle.collector.specs.declared.stretch.Gain.{Gain}

-- ---- the kinds

-- how often a kind stands in a list
abbrev pub times : Kind → List Kind → ℕ
times g [] = 0
times g (k ∷ ks) = (if sameKind k g then 1 else 0) + times g ks

pub once : (g : Kind) → times g kinds ≡ 1
once = by_kind (λ g. times g kinds ≡ 1) refl refl refl refl refl refl

-- a kind's number is no more than all of them together
pub one_of : (n : Fate → ℕ) (k : Kind) → n (done k) ≤ sum_of n
one_of n =
    by_kind (λ k. n (done k) ≤ sum_of n) (omega arith) (omega arith) (omega arith) (omega arith) (omega arith) (omega arith)

-- ---- a record

pub counts_with : (pid : ℕ) (last : Last) (mark : Bool) (rejection held : ℕ) (n : Kind → ℕ) (k : Kind)
    → bytes_counted (done k) (record_with pid last mark rejection held n) ≡ n k
counts_with pid last mark rejection held n =
    by_kind (λ k. bytes_counted (done k) (record_with pid last mark rejection held n) ≡ n k) refl refl refl refl refl refl

-- and a record is made of what it counts
pub with_counts : (r : Record)
    → record_with r.pid r.last r.mark r.rejection r.in_hand (λ k. bytes_counted (done k) r) ≡ r
with_counts r = refl

-- two records that say the same, of each kind too, are one
pub same_record : (r s : Record) → r.pid ≡ s.pid → r.last ≡ s.last → r.mark ≡ s.mark → r.rejection ≡ s.rejection
    → r.in_hand ≡ s.in_hand → ((k : Kind) → bytes_counted (done k) r ≡ bytes_counted (done k) s) → r ≡ s
same_record r s pid last mark rejection held counts = λ i.
    record_with (pid i) (last i) (mark i) (rejection i) (held i) (λ k. counts k i)

-- ---- an answer

-- the bytes of a stretch's rest are neither a pointer nor of a section that came whole
pub rest_apart : (rest : Rest)
    → (sameKind (kind_of rest) pointer ≡ false) × (sameKind (kind_of rest) accepted ≡ false) × (sameKind (kind_of rest) rejected ≡ false)
rest_apart filling = (refl, refl, refl)
rest_apart skipping = (refl, refl, refl)
rest_apart breaking = (refl, refl, refl)

-- an answer tells what it is made with
pub gain_with_lem : (held sections bytes other number : ℕ) (n : Rest → ℕ) (rest : Rest)
    → gain_of (gain_with held sections bytes other number n) rest ≡ n rest
gain_with_lem held sections bytes other number n filling = refl
gain_with_lem held sections bytes other number n skipping = refl
gain_with_lem held sections bytes other number n breaking = refl

-- its numbers are small if they are so for each way of a rest
pub small_by : (a : Gain) → a.sections ≤ 5000 → a.bytes ≤ 5000 → a.rejected ≤ 5000 → ((rest : Rest) → gain_of a rest ≤ 5000)
    → Small a
small_by a e w v x =
    record { sections = e; bytes = w; rejected = v; breaking = x breaking; filling = x filling; skipping = x skipping }

-- what a packet adds of each kind, by what it adds of those that the code counts apart
pub added_by_lem : (e : Gain) (lost : ℕ) (start : Bool) (n : Kind → ℕ) → point_count start ≡ n pointer → e.bytes ≡ n accepted
    → e.rejected ≡ n rejected → lost + e.breaking ≡ n broken
    → ((rest : Rest) → sameKind (kind_of rest) broken ≡ false → gain_of e rest ≡ n (kind_of rest))
    → (k : Kind) → added_by e lost start k ≡ n k
added_by_lem e lost start n p a r b x =
    by_kind (λ k. added_by e lost start k ≡ n k) p a r b (x filling refl) (x skipping refl)

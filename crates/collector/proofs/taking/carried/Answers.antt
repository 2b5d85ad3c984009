-- `collector::taking::carried` meets its contract.
use Rattle.std.proofs.Common.{◌≡◌, Bool, take, drop, sym, ap, ◌∙◌}
use Rattle.std.specs.Prelude.{if◌then◌else◌}
use Rattle.collector.specs.Rules.{holding, joined, plain, payload}
use Rattle.collector.specs.Judged.{by_judge}
use Rattle.collector.specs.Refusals.{before_of}
use Rattle.packet.specs.Ruling.{mark_with, repeats, joins, repeated, takes, load_of}
use Rattle.collector.specs.Answer.{Outcome}
use Rattle.collector.specs.Collected.{outcome_after, outcome_of}
use Rattle.collector.proofs.taking.carried.Goals as goal
use Rattle.collector.proofs.taking.carried.Goals.{After-is_repeat, Start}

module _ (s : Start) where
  -- is the mark set, by a packet before or by this one

  abbrev spliced : Bool
  spliced = mark_with (before_of s.args.rec) s.args.load.splice

  -- the outcome, as the packet is a repeated one or not

  abbrev ruled : Bool → Outcome
  ruled again =
      outcome_of s.args.rec s.args.hold.now s.args.out.now
      (if again then repeated else
      takes (load_of spliced s.args.packet.now s.args.load.from s.args.load.start s.args.load.counter))

  -- and as it is joined to the last one or not

  abbrev outcome : Bool → Outcome
  outcome next =
      outcome_after s.args.rec s.args.hold.now s.args.out.now s.args.load.counter
      (payload by_judge plain s.args.load.start
      (joined next (holding (take s.args.rec.in_hand s.args.hold.now)))
      (drop s.args.load.from s.args.packet.now))

-- the test for a repeated packet, by what the record and the packet say
again-is : (r : After-is_repeat)
    → r.is_repeat.result ≡ repeats (before_of r.args.rec).last (mark_with (before_of r.args.rec) r.args.load.splice) r.args.load.counter
again-is r =
    r.is_repeat.ensures
    ∙ ap (λ (t : Bool). repeats (before_of r.args.rec).last t r.args.load.counter)
    r.is_set-spliced.ensures

pub returns-then-is_repeat : goal.returns-then-is_repeat
returns-then-is_repeat c =
    ap (ruled (goal.at.returns-then-is_repeat c).Start)
    (sym c.if-is_repeat.true ∙ again-is (goal.at.returns-then-is_repeat c).After-is_repeat)

pub returns : goal.returns
returns c =
    let start = (goal.at.returns c).Start in
    let next = c.is_joined-next.ensures
    ∙ ap (λ (m : Bool). joins (before_of c.args.rec).last m c.args.load.counter) c.is_set-spliced.ensures in
    c.taken.ensures ∙ ap (outcome start) next
    ∙ ap (ruled start) (sym c.if-is_repeat.false ∙ again-is (goal.at.returns c).After-is_repeat)

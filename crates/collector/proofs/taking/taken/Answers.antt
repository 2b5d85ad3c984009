-- `collector::taking::taken` meets its contract.
use Rattle.std.proofs.Common.{◌≡◌, ℕ, ◌<◌, ◌≤◌, List, length, take, drop, sym, arith, length-drop, length-take, length-take-le}
use Rattle.collector.proofs.Outcomes.{small, outcome_is, kept_most, fit_kept}
use Rattle.collector.proofs.taking.taken.Goals as goal
use Rattle.collector.proofs.taking.taken.Goals.{Start}

module _ (s : Start) where
  abbrev hand : List ℕ
  hand = take s.args.rec.in_hand s.args.hold.now

  abbrev bytes : List ℕ
  bytes = drop s.args.load.from s.args.packet.now

  hand_long : s.args.rec.in_hand ≡ length hand
  hand_long = sym (length-take-le s.args.rec.in_hand s.args.hold.now (omega (arith, s.requires.few, s.requires.hold_big)))

  bytes_long : (0 < length bytes) × (length bytes ≤ 188)
  bytes_long = (
    omega (arith, s.requires.from_within, length-drop s.args.load.from s.args.packet.now),
    omega (arith, s.requires.long, length-drop s.args.load.from s.args.packet.now),
  )

pub overflow_sub-rec : goal.overflow_sub-rec
overflow_sub-rec c =
    let a = c.args in
    omega (arith, c.kept-n.ensures, kept_most a.next a.rec.in_hand)

pub carry-e-requires : goal.carry-e-requires
carry-e-requires c =
    fit_kept c.args.next c.args.rec.in_hand _ c.kept-n.ensures c.requires

pub counted-requires : goal.counted-requires
counted-requires c =
    let start = (goal.at.counted-requires c).Start in
    let n = c.kept-n.result in (
      small c.args.rec c.args.hold.now c.args.out.now c.args.load.counter c.args.load.start
          (take n c.args.hold.now) (bytes start) (bytes_long start).0 c.carry-e.result _ _ c.carry-e.ensures
          (omega (
            arith,
            length-take n c.args.hold.now,
            c.kept-n.ensures,
            kept_most c.args.next c.args.rec.in_hand,
            bytes_long start,
            c.requires.few,
          )),
      omega arith,
    )

pub returns : goal.returns
returns c =
    let start = (goal.at.returns c).Start in
    outcome_is c.args.rec c.args.hold.now c.args.out.now c.args.load.counter c.args.load.start (bytes start)
    (bytes_long start).0 c.carry-e.result _ _ _ c.args.next c.kept-n.result c.kept-n.ensures (hand_long start)
    c.carry-e.ensures c.counted.ensures

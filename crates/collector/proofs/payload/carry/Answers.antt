-- `collector::payload::carry` meets its contract.
use Rattle.std.proofs.Common.{◌≡◌, ℕ, ◌+◌, ◌-◌, ◌≤◌, not, List, length, take, drop, ap, ◌∙◌, arith, length-append, length-drop, length-take-le, take_all}
use Rattle.collector.specs.Judged.{by_judge}
use Rattle.collector.specs.Inner.Payload.{front_rest, front_bytes}
use Rattle.collector.proofs.PayloadLaws.{kept_gone, kept_back, gone_bytes, small_of, front_in, carry-start, carry_on}
use Rattle.collector.proofs.payload.carry.Goals as goal
use Rattle.collector.proofs.payload.carry.Goals.{After-front_of-m}

-- from where the stretch is known that goes to the section in hand
module _ (k : After-front_of-m) where
  abbrev rest : List ℕ
  rest = k.front_of-m.result.0.now

  abbrev m : ℕ
  m = k.front_of-m.result.1

  abbrev bs : List ℕ
  bs = drop k.args.load.from k.args.packet.now

  abbrev h : List ℕ
  h = take k.args.n k.args.hold.now

  abbrev l : List ℕ
  l = take m rest

  abbrev l₂ : List ℕ
  l₂ = take (length rest - m) (drop m rest)

  bs_long : length bs ≡ length k.args.packet.now - k.args.load.from
  bs_long = length-drop k.args.load.from k.args.packet.now

  all : take (length k.args.packet.now - k.args.load.from) bs ≡ bs
  all = take_all _ bs (omega (arith, bs_long))

  rest_is : rest ≡ front_rest k.args.load.start bs
  rest_is = k.front_of-m.ensures.rest ∙ ap (front_rest k.args.load.start) all

  m_is : m ≡ front_bytes k.args.load.start bs
  m_is = k.front_of-m.ensures.bytes ∙ ap (front_bytes k.args.load.start) all

  inside : (m ≤ length rest) × (k.args.load.from + length rest ≤ length k.args.packet.now)
  inside = front_in k.args.load.start k.requires rest rest_is m m_is

  h_long : length h ≡ k.args.n
  h_long = length-take-le k.args.n k.args.hold.now (omega arith)

  l_long : length l ≡ m
  l_long = length-take-le m rest inside.0

  l₂_long : length l₂ ≡ length rest - m
  l₂_long = length-take-le (length rest - m) (drop m rest) (omega (arith, length-drop m rest))

pub go_on-a-requires : goal.go_on-a-requires
go_on-a-requires c =
    let i = inside (goal.at.go_on-a-requires c).After-front_of-m in
    record {
      n_bound = (omega arith, omega arith, i.0, omega (arith, i), omega arith);
      unfinished = c.requires.stands;
    }

pub sections-b-requires : goal.sections-b-requires
sections-b-requires c =
    let k = (goal.at.sections-b-requires c).After-front_of-m in
    let long = length c.front_of-m.result.0.now in
    let size = c.front_of-m.result.1 in
    let i : (size ≤ long) × (c.args.load.from + long ≤ length c.args.packet.now) = inside k in
    let behind : length (take (long - size) (drop size c.front_of-m.result.0.now)) ≡ long - size = l₂_long k in
    let before : length (l k) ≡ size = l_long k in (
      omega (arith, i, behind),
      omega arith,
      omega (
        arith,
        i,
        c.go_on-a.ensures.bytes,
        gone_bytes (not c.args.load.start) (h k) (l k),
        h_long k,
        before,
        behind,
        c.requires.from_past,
      ),
    )

pub both-requires : goal.both-requires
both-requires c =
    let k = (goal.at.both-requires c).After-front_of-m in (
      small_of _ _ (kept_gone by_judge (not c.args.load.start) (h k) (l k))
          (omega (arith, inside k, length-append (h k) (l k), h_long k, l_long k)) c.go_on-a.ensures,
      small_of _ _ (kept_back by_judge (l₂ k)) (omega (arith, inside k, l₂_long k)) c.sections-b.ensures,
    )

pub returns-then-load : goal.returns-then-load
returns-then-load c =
    let k = (goal.at.returns-then-load c).After-front_of-m in
    let a = c.args in
    carry-start a.hold.now a.out.now (bs k) a.n a.was a.load.start c.if-load.true
    (omega (arith, bs_long k, c.requires.from_within)) (rest k) (rest_is k) (m k) (m_is k)
    _ _ _ _ _ _ c.go_on-a.ensures c.sections-b.ensures _ c.both.ensures

pub returns : goal.returns
returns c =
    let k = (goal.at.returns c).After-front_of-m in
    let a = c.args in
    carry_on a.hold.now a.out.now (bs k) a.n a.was a.load.start c.if-load.false (rest k) (rest_is k) (m k) (m_is k)
    _ _ _ c.go_on-a.ensures

-- `account::input::account_of` meets its contract: after each turn one read more is heard.
use Rattle.std.proofs.Common.{ℕ, suc, [], ◌++◌, sym, refl, ◌∙◌, subst, arith}
use Rattle.account.specs.Heard.{state_as, Behind, Fits, brought}
use Rattle.account.specs.Input.{Heard, none_yet, one_more}
use Rattle.account.specs.declared.progress.Progress.{Progress}
use Rattle.account.proofs.Stands.{still_reading, over_not_reading, left_few}
use Rattle.account.proofs.input.account_of.Goals as goal
use Rattle.account.proofs.input.account_of.Goals.{After-read_behind-came}

-- what the read says, at the place that was asked for
behind : (r : After-read_behind-came)
    → Behind r.loop.p.left r.loop.buf r.read_behind-came.new.buf r.read_behind-came.result.got
behind r =
    subst (λ (n : ℕ). Behind n r.loop.buf r.read_behind-came.new.buf r.read_behind-came.result.got) r.left_of.ensures
    r.read_behind-came.ensures

pub loop-init : goal.loop-init
loop-init c =
    record {
      input = [];
      reads = 0;
      heard =
          subst
          (λ (p : Progress). Heard c.args.hold.now c.args.out.now [] 0
          (state_as p c.args.buf.now c.args.hold.now c.args.out.now))
          (sym c.start-p.ensures) (none_yet c.requires.0 c.requires.1 c.requires.2);
      count = refl;
      buf_long = refl;
    }

pub returns-then-is_over : goal.returns-then-is_over
returns-then-is_over c =
    let l = c.loop in
    record {
      input = l.invariant.input;
      reads = l.invariant.reads;
      state = state_as l.p l.buf l.hold l.out;
      heard = l.invariant.heard;
      progress_is = refl;
      all_reads = λ e. absurd (over_not_reading l.p.stage (sym c.is_over.ensures ∙ c.if-is_over.true) e);
    }

pub read_behind-came-requires : goal.read_behind-came-requires
read_behind-came-requires c =
    omega (arith, c.left_of.ensures, left_few c.loop.invariant.heard, c.loop.invariant.buf_long, c.requires.0)

pub heard-p-requires : goal.heard-p-requires
heard-p-requires c =
    let r = (goal.at.heard-p-requires c).After-read_behind-came in
    subst (Fits c.loop.p.left c.read_behind-came.result.got) (sym c.read_behind-came.auto.buf) (behind r).fits

pub loop-preserved : goal.loop-preserved
loop-preserved c =
    let r = (goal.at.loop-preserved c).After-read_behind-came in
    let l = c.loop in
    record {
      input = l.invariant.input ++ brought l.p.left c.read_behind-came.new.buf c.read_behind-came.result.got;
      reads = suc l.invariant.reads;
      heard =
          subst
          (Heard c.args.hold.now c.args.out.now
          (l.invariant.input ++ brought l.p.left c.read_behind-came.new.buf c.read_behind-came.result.got)
          (suc l.invariant.reads))
          (sym c.heard-p.ensures)
          (one_more l.invariant.heard (still_reading l.p.stage (sym c.is_over.ensures ∙ c.if-is_over.false))
          c.read_behind-came.new.buf c.read_behind-came.result.got c.read_behind-came.auto.buf (behind r));
      count = omega (arith, l.invariant.count);
      buf_long = c.heard-p.auto.buf ∙ c.read_behind-came.auto.buf ∙ l.invariant.buf_long;
    }

pub returns : goal.returns
returns c =
    let l = c.loop in
    record {
      input = l.invariant.input;
      reads = l.invariant.reads;
      state = state_as l.p l.buf l.hold l.out;
      heard = l.invariant.heard;
      progress_is = refl;
      all_reads = λ e. omega (arith, l.invariant.count, c.loop-test.false);
    }

-- The judge's word in numbers.
use Rattle.cabinet.specs.Judge.{judge_says}
use Rattle.cabinet.proofs.judge.lohitunga_judge.Goals as goal

pub returns : goal.returns
unfolding judge_says
returns c = rw (← c.judge-verdict.ensures, c.number.ensures, c.place.ensures)

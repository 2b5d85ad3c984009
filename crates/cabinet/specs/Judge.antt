-- What the judge says in numbers.
use Rattle.verdict.specs.Verdict.{Said, number_of, place_of}
use Rattle.cabinet.specs.declared.judge.JudgeAnswer.{JudgeAnswer}

-- the refusal's number and place; both are 0 where the section is accepted
unfoldable pub judge_says : Said → JudgeAnswer
judge_says s = record { number = number_of s; place = place_of s }

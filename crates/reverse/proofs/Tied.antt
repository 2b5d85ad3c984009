-- What the theorems assume of a call is what `write` promises, to the letter; and two answers that tell the same are equal.
use mathlib.Core.Path.{◌≡◌, refl, sym, ap, ◌∙◌}
use seplogic.Ra.Ura.{Ura}
use base.Logic.{SProp}
use prog.Memory.{Memory}
use prog.Routine.{Routine}
use types.Logic.{Logic}
use contract.Monad.{Fun, fact}
use contract.Lifetimes.{Lfts}
use denote.Triple.Entry.{Args, Res}
use denote.Triple.Clauses.{Lasts, at_exit}
use lib.Dec.{eqb}
use Rattle.std.specs.Prelude.{Ok, Err, if◌then◌else◌}
use Rattle.writer.specs.Answer.{Reply, wrote, refused_with, Answer, told, came}
use Rattle.writer.specs.declared.Refusal.TheVariants.{BadStart, BadSection, Room}
use Rattle.reverse.specs.Writer.{Promised}
use Rattle.writer.specs.contracts.write as write

module _ {M : Type 1} {𝓤 : Ura M} (𝓛 : Logic 𝓤) (at_mem : Memory → SProp 𝓤) (run : Routine → Fun 𝓤) where
  pub write_promises : (κs : Lfts (write.ended).signature.lifetimes) (a : Args (write.ended).signature κs)
      (r : Res (write.ended).signature κs) (ws : Lasts write.ended κs a)
      → (write.clauses 𝓛 at_mem run κs a).ensures tt r (at_exit write.ended κs a ws)
      ≡ fact 𝓤
      (Promised a.0 a.1.0 a.1.1.0.now a.1.1.1.0.now a.1.1.1.1.0.now
      (came ws.1.1.1.1.0 r))
  write_promises κs a r ws = refl

answerAt : Reply → Answer
answerAt (wrote n) = Ok n
answerAt (refused_with n) = Err (if eqb n 101 then BadStart else (if eqb n 102 then BadSection else Room))

answer_at : (a : Answer) → answerAt (told a) ≡ a
unfolding answerAt
answer_at (Ok n) = refl
answer_at (Err BadStart) = refl
answer_at (Err BadSection) = refl
answer_at (Err Room) = refl

pub told_once : (a b : Answer) → told a ≡ told b → a ≡ b
told_once a b e = sym (answer_at a) ∙ ap answerAt e ∙ answer_at b

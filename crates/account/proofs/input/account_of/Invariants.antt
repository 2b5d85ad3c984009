-- `account::input::account_of` meets its contract: after each turn one read more is heard.
use Rattle.std.proofs.Common.{◌≡◌, ℕ, List, length}
use Rattle.account.specs.Heard.{state_as}
use Rattle.account.specs.Input.{Heard}
use Rattle.account.specs.declared.progress.Progress.{Progress}
use Rattle.account.proofs.input.account_of.Given as goal

pub record Stands (buf₀ hold₀ out₀ buf hold out : List ℕ) (p : Progress) (turns : ℕ) : Type 0 where
  pub input : List ℕ
  pub reads : ℕ
  pub heard : Heard hold₀ out₀ input reads (state_as p buf hold out)
  pub count : reads ≡ turns
  pub buf_long : length buf ≡ length buf₀

abbrev pub invariant-loop : goal.invariant-loop
invariant-loop l = Stands l.initial.buf l.initial.hold l.initial.out l.buf l.hold l.out l.p l.counter

-- What holds between reads, whatever they brought.
use Rattle.std.proofs.Common.{◌≡◌, ℕ, ◌+◌, ◌/◌, ◌<◌, true, false, ltb, List, sym, refl, ap, ◌∙◌, arith, ltb-true}
use Rattle.wire.proofs.IfLaws.{if-case, true_not_false}
use Rattle.account.specs.Entered.{kept_as, entered_all, pieces}
use Rattle.account.specs.Heard.{State, account_for, waits, moved, absorbed, heard_as, is_over}
use Rattle.account.specs.Input.{Heard, none_yet, one_more}
use Rattle.account.specs.declared.reading.Got.{Got}
use Rattle.account.specs.declared.reading.Got.TheVariants.{Bytes, Again, End, Failed}
use Rattle.account.specs.declared.progress.Stage.{Stage}

pub still_reading : (s : Stage) → is_over s ≡ false → s ≡ Stage.Reading
still_reading Stage.Reading e = refl
still_reading Stage.Over e = absurd (true_not_false e)
still_reading Stage.Failed e = absurd (true_not_false e)

pub over_not_reading : (s : Stage) → is_over s ≡ true → s ≡ Stage.Reading → ⊥
over_not_reading s e w = true_not_false (sym e ∙ ap is_over w)

-- the whole packets among the first n bytes are entered
abbrev pub entering : ℕ → State → State
entering n s =
    moved n s.buf
    (entered_all (kept_as (account_for s.progress s.buf) s.hold s.out) (pieces (n / 188) s.buf))

-- less than a packet is left
left_absorbed : (n : ℕ) (s : State) → (absorbed n s).progress.left < 188
left_absorbed n s =
    if-case (λ (z : State). z.progress.left < 188) (ltb n 188) {x = waits n s} {y = entering n s} (λ e. ltb-true n 188 e)
    (λ e. omega arith)

left_after : (g : Got) (s : State) → s.progress.left < 188 → (heard_as g s).progress.left < 188
left_after (Bytes n) s k = left_absorbed (s.progress.left + n) s
left_after Again s k = k
left_after End s k = k
left_after Failed s k = k

pub left_few : {hold₀ out₀ input : List ℕ} {reads : ℕ} {s : State} → Heard hold₀ out₀ input reads s
    → s.progress.left < 188
left_few (none_yet k h o) = omega arith
left_few (one_more x w buf got l b) = left_after got _ (left_few x)

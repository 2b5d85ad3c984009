-- The input as the reads brought it, one after the other.
use Rattle.std.specs.Prelude.{Some, None, Ok, ◌≡◌, ℕ, suc, ◌-◌, ◌/◌, ◌%◌, ◌^◌, List, [], ◌++◌, length, drop, ◌==◌, nat_lt, if◌then◌else◌}
use Rattle.std.proofs.Math.Option.{Option, none, some}
use Rattle.account.specs.Entered.{first_pid, fresh_account, Kept, kept_as, entered, entered_all, pieces}
use Rattle.account.specs.Heard.{Behind, brought, State, state_as, start_progress, heard_as, Ended}
use Rattle.account.specs.declared.reading.Got.{Got}
use Rattle.account.specs.declared.reading.Got.TheVariants.{End, Failed}
use Rattle.account.specs.declared.progress.Progress.{Progress}
use Rattle.account.specs.declared.progress.Stage.TheVariants.{Reading, Over}
use Rattle.account.specs.declared.progress.Stage.TheVariants as Stage
use Rattle.account.specs.declared.tally.Account.{Account}

-- From the start, with a buffer of 65,536 bytes and rooms as small as the collector takes them: the bytes that the reads
-- brought so far, end to end, how many reads were made, and the state. Each read goes behind what is left, and what it came
-- to is heard.
pub data Heard (hold₀ out₀ : List ℕ) : List ℕ → ℕ → State → Type 0 where
  none_yet : {buf : List ℕ} → length buf ≡ 65536 → length hold₀ ≡ 4096 → length out₀ ≡ 4280
      → Heard hold₀ out₀ [] 0 (state_as start_progress buf hold₀ out₀)
  one_more : {input : List ℕ} {reads : ℕ} {s : State} → Heard hold₀ out₀ input reads s → s.progress.stage ≡ Reading
      → (buf : List ℕ) (got : Got) → length buf ≡ length s.buf → Behind s.progress.left s.buf buf got
      → Heard hold₀ out₀ (input ++ brought s.progress.left buf got) (suc reads)
      (heard_as got (state_as s.progress buf s.hold s.out))

-- what the last read came to
abbrev pub last_read : {hold₀ out₀ input : List ℕ} {reads : ℕ} {s : State} → Heard hold₀ out₀ input reads s → Option Got
last_read (none_yet b h o) = none
last_read (one_more x e buf got l b) = some got

-- where reading came to: it goes on only where 2^64 - 1 reads were made
pub record CameTo (hold₀ out₀ : List ℕ) (p : Progress) : Type 0 where
  pub input : List ℕ
  pub reads : ℕ
  pub state : State
  pub heard : Heard hold₀ out₀ input reads state
  pub progress_is : state.progress ≡ p
  pub all_reads : p.stage ≡ Reading → reads ≡ 2 ^ 64 - 1

-- "Reads packets on standard input": reading is over only where a read met the end of the input, and is said to have
-- failed only where one failed
abbrev pub OverAtTheEnd : Type 0
OverAtTheEnd = (hold₀ out₀ : List ℕ) (p : Progress) (x : CameTo hold₀ out₀ p)
    → (p.stage ≡ Over → last_read x.heard ≡ some End) × (p.stage ≡ Stage.Failed → last_read x.heard ≡ some Failed)

-- ---- what an input comes to, however it was cut into reads

-- the account of the whole packets of an input, for the PID of its first, from rooms as given
abbrev pub account_of : List ℕ → List ℕ → List ℕ → Kept
account_of input hold out =
    entered_all (kept_as (fresh_account (first_pid input)) hold out) (pieces (length input / 188) input)

-- what is left of an input past its whole packets
abbrev pub rest_of : List ℕ → List ℕ
rest_of input = drop (length input - length input % 188) input

-- "A last piece under 188 bytes counts as refused (41)": it is entered too, and the collector refuses it
abbrev pub whole_account : List ℕ → List ℕ → List ℕ → Account
whole_account input hold out =
    if length input % 188 == 0 then (account_of input hold out).account
    else (entered (account_of input hold out) (rest_of input)).account

-- "input under 188 bytes prints only `no packets`"; else the account
abbrev pub end_of : List ℕ → List ℕ → List ℕ → Ended
end_of input hold out = if nat_lt (length input) 188 then Ok None else Ok (Some (whole_account input hold out))

-- What one read may come to, and what each outcome makes of all that is kept between reads: the progress, the buffer, the
-- hold and the out room. Which bytes a read brings is the one thing that nothing here fixes.
use Rattle.std.specs.Prelude.{◌≡◌, ℕ, zero, suc, ◌+◌, ◌-◌, ◌/◌, ◌%◌, ◌≤◌, min, Bool, true, false, Option, Some, None, Result, Ok, Err, List, ◌++◌, length, take, drop, ℤ, pos, negsuc, ◌==◌, nat_lt, if◌then◌else◌}
use Rattle.account.specs.Entered.{first_pid, fresh_account, Kept, kept_as, entered, entered_all, pieces}
use Rattle.account.specs.declared.tally.Account.{Account}
use Rattle.account.specs.declared.reading.Got.{Got}
use Rattle.account.specs.declared.reading.Got.TheVariants.{Bytes, Again, End, Failed}
use Rattle.account.specs.declared.progress.Progress.{Progress}
use Rattle.account.specs.declared.progress.Stage.{Stage}
use Rattle.account.specs.declared.progress.Failed as failure

-- ---- what a read came to

-- it failed, or only a signal came first: errno is EINTR
abbrev pub failed_as : ℤ → Got
failed_as (pos n) = if n == 4 then Again else Failed
failed_as (negsuc n) = Failed

-- `read` answers how many bytes came, no more than the room has; 0 at the end of the input; below 0 where it failed
abbrev pub got_as : ℤ → ℤ → ℕ → Got
got_as (pos zero) error size = End
got_as (pos (suc n)) error size = Bytes (min (suc n) size)
got_as (negsuc n) error size = failed_as error

-- how many bytes it brought
abbrev pub size_of : Got → ℕ
size_of (Bytes n) = n
size_of Again = 0
size_of End = 0
size_of Failed = 0

-- a read brings no more bytes than it is lent room for
abbrev pub GotIn : ℕ → Got → Type 0
GotIn size got = size_of got ≤ size

-- so many bytes stand behind those that were left
abbrev pub Fits : ℕ → Got → ℕ → Type 0
Fits left got size = left + size_of got ≤ size

-- a read behind what is left leaves that as it is
pub record Behind (left : ℕ) (buf buf' : List ℕ) (got : Got) : Type 0 where
  pub fits : Fits left got (length buf)
  pub kept : take left buf' ≡ take left buf

-- the bytes that it brought
abbrev pub brought : ℕ → List ℕ → Got → List ℕ
brought left buf got = take (size_of got) (drop left buf)

-- ---- what is kept between reads

pub record State : Type 0 where
  pub progress : Progress
  pub buf : List ℕ
  pub hold : List ℕ
  pub out : List ℕ

abbrev pub state_as : Progress → List ℕ → List ℕ → List ℕ → State
state_as p buf hold out = record { progress = p; buf = buf; hold = hold; out = out }

abbrev pub progress_as : ℕ → Option Account → Stage → Progress
progress_as left a stage = record { left = left; account = a; stage = stage }

-- before the first read
abbrev pub start_progress : Progress
start_progress = progress_as 0 None Stage.Reading

-- the account so far, or a fresh one for this PID
abbrev pub account_or : Option Account → ℕ → Account
account_or (Some a) pid = a
account_or None pid = fresh_account pid

-- "the PID .. of the first" packet, which stands at the front of the bytes
abbrev pub account_for : Progress → List ℕ → Account
account_for p bytes = account_or p.account (first_pid bytes)

-- the n bytes from index from on, at the front; the bytes behind those stay
abbrev pub to_front : List ℕ → ℕ → ℕ → List ℕ
to_front buf from n = take n (drop from buf) ++ drop n buf

-- less than a packet is there: it stays where it is
abbrev pub waits : ℕ → State → State
waits n s = state_as (progress_as n s.progress.account Stage.Reading) s.buf s.hold s.out

-- the whole packets among the first n bytes are entered, and what is left of them stands at the front
abbrev pub moved : ℕ → List ℕ → Kept → State
moved n buf k =
    state_as (progress_as (n % 188) (Some k.account) Stage.Reading) (to_front buf (n - n % 188) (n % 188)) k.hold k.out

-- the buffer's first n bytes have come
abbrev pub absorbed : ℕ → State → State
absorbed n s =
    if nat_lt n 188 then waits n s
    else moved n s.buf
    (entered_all (kept_as (account_for s.progress s.buf) s.hold s.out) (pieces (n / 188) s.buf))

-- "A last piece under 188 bytes counts as refused (41)": it is entered too, and the collector refuses it
abbrev pub with_piece : ℕ → List ℕ → Kept → Kept
with_piece left buf k = if left == 0 then k else entered k (take left buf)

-- the account and the rooms are these, and all else stays
abbrev pub kept_in : State → Kept → State
kept_in s k = state_as (progress_as s.progress.left (Some k.account) s.progress.stage) s.buf k.hold k.out

-- before the first packet there is no account to enter a piece to
abbrev pub last_piece : Option Account → State → State
last_piece None s = s
last_piece (Some a) s = kept_in s (with_piece s.progress.left s.buf (kept_as a s.hold s.out))

abbrev pub finished_as : State → State → State
finished_as s t = state_as (progress_as s.progress.left t.progress.account Stage.Over) s.buf t.hold t.out

-- the input is at its end
abbrev pub finished : State → State
finished s = finished_as s (last_piece s.progress.account s)

-- each outcome of a read, from the state with the buffer as the read left it
abbrev pub heard_as : Got → State → State
heard_as (Bytes n) s = absorbed (s.progress.left + n) s
heard_as Again s = s
heard_as End s = finished s
heard_as Failed s =
    state_as (progress_as s.progress.left s.progress.account Stage.Failed) s.buf s.hold s.out

-- ---- when it is over

abbrev pub is_over : Stage → Bool
is_over Stage.Reading = false
is_over Stage.Over = true
is_over Stage.Failed = true

-- no account where reading failed, or came to no end
abbrev pub Ended : Type 0
Ended = Result (Option Account) failure.Failed

-- "input under 188 bytes prints only `no packets`"
abbrev pub ended_by : Stage → Option Account → Ended
ended_by Stage.Reading a = Err (record {})
ended_by Stage.Over a = Ok a
ended_by Stage.Failed a = Err (record {})

abbrev pub ended_of : Progress → Ended
ended_of p = ended_by p.stage p.account

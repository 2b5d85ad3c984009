-- What the account program keeps, and what a packet makes of it.
use Rattle.std.specs.Prelude.{ℕ, zero, suc, ◌+◌, ◌*◌, ◌%◌, ◌^◌, List, [], ◌∷◌, take, drop, slice_index}
use Rattle.collector.specs.Answer.{Reply, refused_with, repeated, taken, Outcome}
use Rattle.collector.specs.Collected.{fresh_record, collected}
use Rattle.collector.specs.declared.Record.{Record}
use Rattle.account.specs.declared.tally.Account.{Account}

-- "the PID .. is that of the first": the low 13 bits of bytes 1 and 2
abbrev pub first_pid : List ℕ → ℕ
first_pid bytes = slice_index bytes 1 % 32 * 256 + slice_index bytes 2

-- the account of a fresh collector for a PID: no packet yet
abbrev pub fresh_account : ℕ → Account
fresh_account pid = record { rec = fresh_record pid; taken = 0; repeated = 0; refused = 0; sections = 0 }

-- the account, the hold and the out room
pub record Kept : Type 0 where
  pub account : Account
  pub hold : List ℕ
  pub out : List ℕ

-- the three put together
abbrev pub kept_as : Account → List ℕ → List ℕ → Kept
kept_as a hold out = record { account = a; hold = hold; out = out }

-- one packet more, which left the record r and had this answer
abbrev pub tallied : Account → Record → Reply → Account
tallied a r (refused_with n) = record { rec = r; taken = a.taken; repeated = a.repeated; refused = (a.refused + 1) % 2 ^ 64; sections = a.sections }
tallied a r repeated = record { rec = r; taken = a.taken; repeated = (a.repeated + 1) % 2 ^ 64; refused = a.refused; sections = a.sections }
tallied a r (taken sections bytes) = record {
  rec = r;
  taken = (a.taken + 1) % 2 ^ 64;
  repeated = a.repeated;
  refused = a.refused;
  sections = (a.sections + sections) % 2 ^ 64;
}

-- what is kept after a packet that had this outcome
abbrev pub entered_as : Account → Outcome → Kept
entered_as a o = record { account = tallied a o.rec o.said; hold = o.hold; out = o.out }

-- one packet more, given to the collector
abbrev pub entered : Kept → List ℕ → Kept
entered k packet = entered_as k.account (collected k.account.rec k.hold k.out packet)

-- packets, one after the other
abbrev pub entered_all : Kept → List (List ℕ) → Kept
entered_all k [] = k
entered_all k (p ∷ ps) = entered_all (entered k p) ps

-- so many pieces of 188 bytes from the front
abbrev pub pieces : ℕ → List ℕ → List (List ℕ)
pieces zero bytes = []
pieces (suc n) bytes = take 188 bytes ∷ pieces n (drop 188 bytes)

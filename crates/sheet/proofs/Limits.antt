-- Document 01's numbers for sheets, computed at each limit.
use mathlib.Core.Path.{refl}
use Rattle.tables.specs.Tables.{cell, holds, first, row_of}
use Rattle.forms.specs.Form.{raw_read, both_read, such_read, each_read, each_show}
use Rattle.forms.specs.Fields.{below_read, room, pack}
use Rattle.forms.specs.Lists.{times_read, all, counted_read, loop_show}
use Rattle.sheet.specs.Content.{head_of, entry_of, shape_of, side_of}
use Rattle.sheet.specs.Sheet.{descriptor_read, read_for}
use Rattle.sheet.specs.Section.{section_length, read_sheet_for}
use Rattle.sheet.specs.Reads.{judged_for}
use Rattle.sheet.specs.Limits.{Limits}

pub limits : Limits
unfolding judged_for read_sheet_for read_for raw_read both_read such_read each_read each_show below_read times_read counted_read
    descriptor_read all loop_show room pack head_of entry_of shape_of side_of
    section_length cell holds first row_of
limits = record {
  service = record {
    greatest = refl;
    version = refl;
    current = refl;
    number = refl;
    schedule = refl;
    following = refl;
    running_status = refl;
    free_ca_mode = refl;
  };
  event = record
      { greatest = refl; version = refl; current = refl; number = refl; running_status = refl; free_ca_mode = refl };
  network = record { greatest = refl; version = refl; current = refl; number = refl };
  bouquet = record { greatest = refl; version = refl; current = refl; number = refl };
  services = record { whole = refl; less = refl; more = refl };
  events = record { whole = refl; less = refl; more = refl };
  networks = record { whole = refl; less = refl; more = refl };
  bouquets = record { whole = refl; less = refl; more = refl };
  time = record { whole = refl; less = refl; more = refl };
  offset = record { whole = refl; less = refl; more = refl };
  ids = record { none = refl; below = refl; beside = refl; above = refl; known = refl };
}

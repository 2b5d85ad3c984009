-- The judge's word, and the parts, in numbers.
use Rattle.cabinet.proofs.OpenSays.{accepted_says, refused_says, bare_zeros, part_zeros}
use Rattle.cabinet.proofs.section_parts.lohitunga_open.Goals as goal

pub returns-in-Ok : goal.returns-in-Ok
returns-in-Ok c =
    rw (
      c.part_says-in-Ok-2.ensures,
      c.part_says-in-Ok.ensures,
      c.part_says.ensures,
      c.head_of.ensures,
      accepted_says _ _ c.in-Ok.ensures,
    )

pub returns-in-Err : goal.returns-in-Err
returns-in-Err c =
    let none = c.default.result in
    let zeros = c.default.ensures.1.1 in
    rw (
      c.number.ensures,
      c.place.ensures,
      bare_zeros none.head zeros.0,
      part_zeros none.utc_time zeros.1.0,
      part_zeros none.top zeros.1.1.0,
      part_zeros none.entries zeros.1.1.1,
      refused_says _ _ c.in-Err.ensures,
    )

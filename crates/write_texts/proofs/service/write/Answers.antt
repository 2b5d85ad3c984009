-- `write_texts::service::write` meets its contract.
use Rattle.write_texts.specs.Service.{service_written}
use Rattle.write_texts.proofs.Numbered.{writes_inside}
use Rattle.write_texts.proofs.service.write.Goals as goal

pub returns : goal.returns
unfolding service_written
returns c =
    let a = c.args in
    writes_inside 0x48 1 _ a.provider.now a.name.now a.room.now c.write.result _
    c.write.ensures c.ranges.service_type.fits

-- `travelmap::travelmap_section` meets its contract: the answer of the section is packed, and the contents at exit are those of the section.
use Rattle.travelmap.proofs.Passing.{section_fits, section_packed}
use Rattle.travelmap.proofs.travelmap_section.Goals as goal

pub pack_section-requires : goal.pack_section-requires
pack_section-requires c = section_fits _ _ _ _ _ _ c.section.ensures

pub returns : goal.returns
returns c =
    section_packed _ _ _ _ _ _ _ c.ranges.code c.section.ensures c.pack_section.ensures

-- Laws: where a run begins (Back), the planes of a map (Outwards), and laws that no proof cites (Stated).
pub mod Back
pub mod Outwards
pub mod Stated

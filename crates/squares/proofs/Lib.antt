-- Laws: rising lists, place by place, and their runs (Runs), the cells just behind runs (Walk), and laws that no proof cites (Stated).
pub mod Runs
pub mod Walk
pub mod Stated

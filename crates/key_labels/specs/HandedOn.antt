pub use Rattle.place_order.specs.Labels.{place_in}
pub use Rattle.place_order.specs.Rising.{is_before}

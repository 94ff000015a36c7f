pub use Rattle.sv_component.specs.Call
pub use Rattle.sv_exchange.specs.Changing
pub mod Options

-- Laws of runs of prices, passed on to those who see only the measures.
pub use Rattle.windows.proofs.RunLaws.{length-bars, bar-prices, from-bar, past-bars, take-least, bars-drop, bars-take, bars-part}

-- Laws of windows, passed on to those who see only the measures.
pub use Rattle.windows.proofs.WindowLaws.{up_to-le, up_to-in, up_to-out, up_to-one, drop-take, window-part, bars-window, length-window, back-window, newest-more, newest-none, newest-all, newest-again, back-newest, window-reach, all-of-it, window-again}

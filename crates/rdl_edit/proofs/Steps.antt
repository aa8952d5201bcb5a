-- What a step of a session is as good as.
pub use Rattle.rdl_edit.proofs.Walking.{step-judged, steps}

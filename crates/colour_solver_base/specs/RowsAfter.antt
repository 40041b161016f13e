-- Trusted: A row of any kind and its two bodies after a visit.
use Rattle.momenta.specs.declared.state.Ends.{Ends}

pub record RowAfter (R : Type 0) : Type 0 where
  pub row : R
  pub ends : Ends

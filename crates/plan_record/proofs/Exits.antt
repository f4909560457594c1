-- The exits of a judge, under the name that the crates above know.
pub use Rattle.morph.proofs.Exits.{said_up, first_up, said_ok, refused_some}

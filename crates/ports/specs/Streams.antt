-- Which descriptor an input reads from, and an output writes to. Standard input is descriptor 0, and standard output descriptor 1.
use Rattle.std.specs.Prelude.{ℤ, pos}
use Rattle.std.specs.Fd.{file_raw_fd}
use Rattle.ports.specs.declared.Source.{Source}
use Rattle.ports.specs.declared.Source.TheVariants.{Standard, Opened}
use Rattle.ports.specs.declared.Input.{Input}
use Rattle.ports.specs.declared.Output.{Output}

abbrev pub descriptor_of_source : Source → ℤ
descriptor_of_source (Standard s) = pos 0
descriptor_of_source (Opened f) = file_raw_fd f

abbrev pub descriptor_of : Input → ℤ
descriptor_of i = descriptor_of_source i.source

abbrev pub descriptor_to : Output → ℤ
descriptor_to o = pos 1

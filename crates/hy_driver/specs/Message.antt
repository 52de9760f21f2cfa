-- The bytes of a message.
use Rattle.std.specs.Prelude.{ℕ, List, [], string_bytes}
use Rattle.hy_driver.specs.declared.message.Message.{Message}
use Rattle.hy_driver.specs.declared.message.Message.TheVariants.{Silent, Fixed, Owned}

abbrev pub bytes_of_message : Message → List ℕ
bytes_of_message Silent = []
bytes_of_message (Fixed text) = text.now
bytes_of_message (Owned text) = string_bytes text

-- What a cursor stands in.
use Rattle.std.specs.Prelude.{ℕ, List}
use Rattle.words.specs.declared.cursor.Cursor.{Cursor}

-- the bytes of the script
abbrev pub text : Cursor → List ℕ
text c = c.script.now

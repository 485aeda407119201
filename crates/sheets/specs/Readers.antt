-- What a reader has still to hand out. Only contracts of private functions cite it.
use Rattle.std.specs.Prelude.{ℕ, nat_le, List, [], length, drop, if◌then◌else◌}
use Rattle.sheets.specs.declared.reader.Reader.{Reader}
use Rattle.sheets.specs.Texts.{parts}

-- the parts from the reader's place on; past the last part its place is one past the end
abbrev pub left : Reader → List (List ℕ)
left reader =
    if nat_le reader.at (length reader.text.now)
    then parts reader.separator (drop reader.at reader.text.now) else []

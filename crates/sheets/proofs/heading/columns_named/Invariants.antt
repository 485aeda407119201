use Rattle.std.proofs.Common.{◌≡◌, ◌≤◌, ◌++◌, map, length, take}
use Rattle.sheets.specs.Forms.{name_of, columns_of}
use Rattle.sheets.specs.Readers.{left}
use Rattle.sheets.specs.Texts.{fields_in}
use Rattle.sheets.proofs.heading.columns_named.Given as goal

abbrev pub invariant-loop-field : goal.invariant-loop-field
invariant-loop-field l = record {
  whole : fields_in l.names ≡ map name_of (take l.count l.given) ++ left l.fields;
  long : length l.given ≡ 8;
  room : l.count ≤ length (columns_of l.form);
}

abbrev pub decreases-loop-field : goal.decreases-loop-field
decreases-loop-field l = length (left l.fields)

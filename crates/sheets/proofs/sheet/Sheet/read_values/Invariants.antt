use Rattle.std.proofs.Common.{◌≡◌, ◌≤◌, ◌+◌, map, length, take, drop}
use Rattle.std.specs.List.{All}
use Rattle.sheets.specs.declared.form.TheConstants.{MOST_LINES}
use Rattle.sheets.specs.declared.reader.TheConstants.{LONGEST}
use Rattle.sheets.specs.Forms.{first_columns}
use Rattle.sheets.specs.Lines.{FirstFit}
use Rattle.sheets.specs.Readers.{left}
use Rattle.sheets.proofs.sheet.Sheet.read_values.Given as goal

abbrev pub invariant-loop-line : goal.invariant-loop-line
invariant-loop-line l = record {
  rest : drop l.len (left l.fn.lines) ≡ left l.lines;
  within : l.len ≤ length (left l.fn.lines);
  counted : l.lines.number ≡ l.len + 1;
  fit : FirstFit (first_columns l.fn.form l.fn.given) (left l.fn.lines) l.len;
  long : length l.kept ≡ MOST_LINES;
  kept : l.len ≤ MOST_LINES → map (λ line. line.now) (take l.len l.kept) ≡ take l.len (left l.fn.lines);
  short : All (λ line. length line.now ≤ LONGEST) l.kept;
}

abbrev pub decreases-loop-line : goal.decreases-loop-line
decreases-loop-line l = length (left l.lines)

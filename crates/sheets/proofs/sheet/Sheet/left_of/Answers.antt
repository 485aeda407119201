use Rattle.std.proofs.Common.{◌≡◌, not, length, ap, ◌∙◌, bytes_eq, arith}
use Rattle.std.proofs.lemmas.List.{length-take}
use Rattle.std.proofs.lemmas.List.Sums.{prefix_len-le-length}
use Rattle.std.specs.Option.{unwrap_or}
use Rattle.std.specs.List.{position_or_len}
use Rattle.sheets.specs.Forms.{name_of, columns_of}
use Rattle.sheets.specs.Sheets.{columns_in}
use Rattle.sheets.specs.declared.form.Column.{Column}
use Rattle.sheets.proofs.Columns.{few_columns}
use Rattle.sheets.proofs.Parts.{unwrap_or-position}
use Rattle.sheets.proofs.sheet.Sheet.left_of.Goals as goal

pub returns : goal.returns
returns c =
    let test = λ (d : Column). bytes_eq (name_of d) (name_of c.args.column) in
    let value : c.unwrap_or.result ≡ position_or_len test (columns_in c.args.self.now) =
    c.unwrap_or.ensures ∙ ap (λ o. unwrap_or o (length c.columns-columns.result.now)) c.position_of.ensures ∙ unwrap_or-position test c.columns-columns.result.now ∙ ap (position_or_len test) c.columns-columns.ensures in
    record {
      value = value;
      few = omega (arith, value, prefix_len-le-length (λ d. not (test d)) (columns_in c.args.self.now), length-take (length (columns_of c.args.self.now.form)) c.args.self.now.columns, few_columns c.args.self.now.form);
    }

-- Why question 1 fails of the text of a sheet.
use Rattle.std.specs.Prelude.{ℕ, List, Option, None, Some, length, nat_lt, ◌==◌, if◌then◌else◌, codes}
use Rattle.table.specs.Places.{nth}
use Rattle.explain.specs.declared.cause.Source.{Source}
use Rattle.explain.specs.declared.cause.Source.TheVariants as source
use Rattle.explain.specs.declared.cause.Cause.{Cause}
use Rattle.explain.specs.declared.cause.Cause.TheVariants.{Missing, Forbidden, NotRegular, Failed, Empty, TooLong, Unended}

-- what is wrong with a text: it is empty, or it has more than 4,096 bytes, or its last byte is no
-- line feed
abbrev pub cause_in : List ℕ → Option Cause
cause_in text =
    if length text == 0 then Some Empty
    else if nat_lt 4096 (length text) then Some TooLong
    else if nth text (length text) 0 == 10 then None
    else Some Unended

-- why question 1 fails of a text: how it was come by, where it was not read from its file, and
-- otherwise what is wrong with it
abbrev pub cause_of : Source → List ℕ → Option Cause
cause_of source.File text = cause_in text
cause_of source.Missing text = Some Missing
cause_of source.Forbidden text = Some Forbidden
cause_of source.NotRegular text = Some NotRegular
cause_of source.Failed text = Some Failed

-- what a cause says of the file
abbrev pub cause_words : Cause → List ℕ
cause_words Missing = codes "is missing"
cause_words Forbidden = codes "may not be read"
cause_words NotRegular = codes "is no regular file"
cause_words Failed = codes "could not be read"
cause_words Empty = codes "is empty"
cause_words TooLong = codes "has more than 4096 bytes"
cause_words Unended = codes "has no line feed at its end"

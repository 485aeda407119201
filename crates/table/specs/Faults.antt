-- The faults: for each case its number, its layer, its place and its words.
use Rattle.std.specs.Prelude.{ℕ, List, codes}
use Rattle.table.specs.declared.fault.Place.{Place}
use Rattle.table.specs.declared.fault.Layer.{Layer}
use Rattle.table.specs.declared.fault.Layer.TheVariants as layer
use Rattle.table.specs.declared.fault.Fault.{Fault}
use Rattle.table.specs.declared.fault.Fault.TheVariants.{BadText, BadNames, BadFieldCount, BadField, BadLineCount, RepeatedTask, BadAnswer, NoAnswer, Full, NoRow, BadRow, BadTest, Empty, BadSlots, NotRunning, OtherLists, BadOrder, BadLength}

-- no sheet
abbrev pub nowhere : Place
nowhere = record { sheet = 0; line = 0; field = 0 }

-- the number of the question that fails
abbrev pub number_of : Fault → ℕ
number_of (BadText p) = 1
number_of (BadNames p) = 2
number_of (BadFieldCount p) = 3
number_of (BadField p) = 4
number_of (BadLineCount p) = 5
number_of (RepeatedTask p) = 6
number_of (BadAnswer p) = 7
number_of (NoAnswer p) = 8
number_of Full = 9
number_of NoRow = 10
number_of (BadRow p) = 11
number_of (BadTest p) = 12
number_of Empty = 13
number_of BadSlots = 14
number_of NotRunning = 15
number_of OtherLists = 16
number_of (BadOrder p) = 17
number_of BadLength = 18

-- the layer that asked it
abbrev pub layer_of : Fault → Layer
layer_of (BadText p) = layer.Sheet
layer_of (BadNames p) = layer.Sheet
layer_of (BadFieldCount p) = layer.Sheet
layer_of (BadField p) = layer.Sheet
layer_of (BadLineCount p) = layer.Sheet
layer_of (RepeatedTask p) = layer.Pair
layer_of (BadAnswer p) = layer.Pair
layer_of (NoAnswer p) = layer.Pair
layer_of Full = layer.Table
layer_of NoRow = layer.Table
layer_of (BadRow p) = layer.Table
layer_of (BadTest p) = layer.Board
layer_of Empty = layer.Study
layer_of BadSlots = layer.Study
layer_of NotRunning = layer.Study
layer_of OtherLists = layer.Study
layer_of (BadOrder p) = layer.Study
layer_of BadLength = layer.Study

-- the place on a sheet; nowhere without a sheet
abbrev pub place_of : Fault → Place
place_of (BadText p) = p
place_of (BadNames p) = p
place_of (BadFieldCount p) = p
place_of (BadField p) = p
place_of (BadLineCount p) = p
place_of (RepeatedTask p) = p
place_of (BadAnswer p) = p
place_of (NoAnswer p) = p
place_of Full = nowhere
place_of NoRow = nowhere
place_of (BadRow p) = p
place_of (BadTest p) = p
place_of Empty = nowhere
place_of BadSlots = nowhere
place_of NotRunning = nowhere
place_of OtherLists = nowhere
place_of (BadOrder p) = p
place_of BadLength = nowhere

-- what it says in words
abbrev pub words_of : Fault → List ℕ
words_of (BadText p) = codes "the text is empty, too long, or has no line feed at its end"
words_of (BadNames p) = codes "line 1 has not just the names of the sheet, each once"
words_of (BadFieldCount p) = codes "the line has not as many fields as line 1"
words_of (BadField p) = codes "the field has not the form of its kind"
words_of (BadLineCount p) = codes "the sheet has too few or too many value lines"
words_of (RepeatedTask p) = codes "the name stands on an earlier line too"
words_of (BadAnswer p) = codes "the name is no task, or stands on an earlier line too"
words_of (NoAnswer p) = codes "the task has no answer"
words_of Full = codes "the table is full"
words_of NoRow = codes "there is no such row"
words_of (BadRow p) = codes "the numbers make no row"
words_of (BadTest p) = codes "there is no such test"
words_of Empty = codes "the table is empty"
words_of BadSlots = codes "a list has not 1 to 4096 whole slots"
words_of NotRunning = codes "no search is running"
words_of OtherLists = codes "the lists are not as the search left them"
words_of (BadOrder p) = codes "the order or its estimates are not right"
words_of BadLength = codes "the list has another length than the table"

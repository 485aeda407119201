-- The files of a folder, the texts that they give, and what is printed of them.
use Rattle.std.specs.Prelude.{◌≡◌, ◌≢◌, ℕ, ◌≤◌, List, [], ◌++◌, take, codes, Option, None, Some, Result, Ok, Err, IfSome, ◌⊎◌, vec_len}
use Rattle.std.specs.IoError.{error_kind}
use Rattle.std.specs.declared.io.Error.{Error}
use Rattle.std.specs.declared.io.ErrorKind.{ErrorKind}
use Rattle.std.specs.declared.io.ErrorKind.TheVariants as kind
use Rattle.sheets.specs.declared.form.Form.{Form}
use Rattle.sheets.specs.declared.form.Form.TheVariants.{Board, Tasks, Answer}
use Rattle.marking.specs.Printed.{Prints}
use Rattle.explain.specs.declared.cause.Source.{Source}
use Rattle.explain.specs.declared.cause.Source.TheVariants.{File, Missing, Forbidden, NotRegular, Failed}
use Rattle.explain.specs.declared.cause.Given.{Given}
use Rattle.explain.specs.Files.{file_name}
use Rattle.explain.specs.Printed.{Explains}
use Rattle.folder.specs.declared.text.Text.{Text}
use Rattle.folder.specs.declared.text.Texts.{Texts}

-- the path of the file that has a sheet: the folder, a slash and the file's name
abbrev pub path_of : List ℕ → Form → List ℕ
path_of folder form = folder ++ (codes "/" ++ file_name form)

-- what an error tells of a file
abbrev pub source_of : ErrorKind → Source
source_of kind.NotFound = Missing
source_of kind.PermissionDenied = Forbidden
source_of _ = Failed

-- The text is that of a sheet which an error keeps from being read: no byte. Want of memory leaves
-- no text.
pub record IsLost (error : Error) (text : Text) : Type 0 where
  pub memory : error_kind error ≢ kind.OutOfMemory
  pub bytes : text.bytes.items ≡ []
  pub source : text.source ≡ source_of (error_kind error)

-- The text is that of a stream which is read without an error: at most 4,097 bytes, and the first
-- 4,097 of its bytes where these are known.
pub record IsStart (known : Option (List ℕ)) (text : Text) : Type 0 where
  pub most : vec_len text.bytes ≤ 4097
  pub bytes : IfSome known (λ bytes. text.bytes.items ≡ take 4097 bytes)
  pub source : text.source ≡ File

-- the text is that of no regular file: no byte
pub record IsNoFile (text : Text) : Type 0 where
  pub bytes : text.bytes.items ≡ []
  pub source : text.source ≡ NotRegular

-- three texts are printed
abbrev pub PrintsTexts : Texts → Option (List ℕ) → Option (List ℕ) → ℕ → Type 0
PrintsTexts texts before after status =
    Prints texts.board.bytes.items texts.tasks.bytes.items texts.answer.bytes.items
    before after status

-- a text is given to be explained, with how it was come by
abbrev pub IsGiven : Text → Given → Type 0
IsGiven text given = (given.text.now ≡ text.bytes.items) × (given.source ≡ text.source)

-- three texts are explained
pub record ExplainsTexts (texts : Texts) (before after : Option (List ℕ)) : Type 0 where
  pub board : Given
  pub tasks : Given
  pub answer : Given
  pub are : IsGiven texts.board board × IsGiven texts.tasks tasks × IsGiven texts.answer answer
  pub explains : Explains board tasks answer before after

-- a text has at most 4,097 bytes, and none but those of a file
pub record IsText (text : Text) : Type 0 where
  pub most : vec_len text.bytes ≤ 4097
  pub none : text.source ≢ File → text.bytes.items ≡ []

-- some three texts are printed
pub record PrintsThree (before after : Option (List ℕ)) (status : ℕ) : Type 0 where
  pub texts : Texts
  pub board : IsText texts.board
  pub tasks : IsText texts.tasks
  pub answer : IsText texts.answer
  pub prints : PrintsTexts texts before after status

-- some three texts are printed on one output, and explained on another
pub record ExplainsThree (before after said told : Option (List ℕ)) (status : ℕ) : Type 0 where
  pub texts : Texts
  pub board : IsText texts.board
  pub tasks : IsText texts.tasks
  pub answer : IsText texts.answer
  pub prints : PrintsTexts texts before after status
  pub explains : ExplainsTexts texts said told

module _ {S : Type 0} (remaining : S → Option (List ℕ)) (fails : S → Error → Type 0) where
  -- the text is what is read of a stream, or that of a sheet which an error of a read keeps from
  -- being read
  abbrev pub IsRead : S → Text → Type 0
  IsRead stream text =
      IsStart (remaining stream) text ⊎ ((error : Error) × fails stream error × IsLost error text)

  -- the text is that of what came of opening a file
  abbrev pub TextOf : Result (Option S) Error → Text → Type 0
  TextOf (Err error) text = IsLost error text
  TextOf (Ok None) text = IsNoFile text
  TextOf (Ok (Some stream)) text = IsRead stream text

  -- The text is that of a sheet in a folder: of what came of opening the file at its path.
  pub record IsSheetText (opens : List ℕ → Result (Option S) Error → Type 0) (folder : List ℕ)
      (form : Form) (text : Text) : Type 0 where
    pub opened : Result (Option S) Error
    pub came : opens (path_of folder form) opened
    pub is : TextOf opened text

  -- three texts are those of the sheets in a folder
  pub record AreTexts (opens : List ℕ → Result (Option S) Error → Type 0) (folder : List ℕ)
      (texts : Texts) : Type 0 where
    pub board : IsSheetText opens folder Board texts.board
    pub tasks : IsSheetText opens folder Tasks texts.tasks
    pub answer : IsSheetText opens folder Answer texts.answer

  -- the texts of the sheets in a folder are printed
  pub record PrintsSheets (opens : List ℕ → Result (Option S) Error → Type 0) (folder : List ℕ)
      (before after : Option (List ℕ)) (status : ℕ) : Type 0 where
    pub texts : Texts
    pub are : AreTexts opens folder texts
    pub prints : PrintsTexts texts before after status

  -- the texts of the sheets in a folder are printed on one output, and explained on another
  pub record ExplainsSheets (opens : List ℕ → Result (Option S) Error → Type 0) (folder : List ℕ)
      (before after said told : Option (List ℕ)) (status : ℕ) : Type 0 where
    pub texts : Texts
    pub are : AreTexts opens folder texts
    pub prints : PrintsTexts texts before after status
    pub explains : ExplainsTexts texts said told

-- what came of opening a file may leave an error for want of memory: it is that error, or there is
-- a stream to be read
abbrev pub WantsMemory : {S : Type 0} → Result (Option S) Error → Error → Type 0
WantsMemory (Err error) want = want ≡ error
WantsMemory (Ok None) want = ⊥
WantsMemory (Ok (Some stream)) want = Unit {0}

-- The words and the files that a case is given.
use Rattle.std.specs.Prelude.{ℕ, List, [], ◌∷◌, None, map}
use Rattle.std.specs.Borrow.{Bor}
use Rattle.std.specs.FinMap.{insert}
use Rattle.np_outside.specs.Files.{Files}
use Rattle.np_outside.specs.MemShelf.{ShelfState}

-- the words, each as its bytes
abbrev pub texts : List (Bor (List ℕ)) → List (List ℕ)
texts words = map (λ word. word.now) words

-- these files as well, each a name and its text: of two with one name the later counts
abbrev pub with_files : Files → List (Bor (List ℕ) × Bor (List ℕ)) → Files
with_files files [] = files
with_files files (file ∷ more) = with_files (insert files file.0.now file.1.now) more

-- a shelf with these files, of which no call has been made and none is to fail
abbrev pub fresh_with : Files → ShelfState
fresh_with files = record {
  files = files;
  rest = None;
  most = None;
  made = 0;
  named = [];
  faults = 0;
  breaks = 0;
}

-- Files and a sink in memory.
use Rattle.std.specs.Prelude.{ℕ, ◌≡◌, ◌+◌, ◌-◌, ◌^◌, ◌↔◌, ◌||◌, Bool, ◌==◌, min, List, ◌++◌, Some, is_none, IsTrue}
use Rattle.std.proofs.Common.{sym, ap, ◌∙◌, append-nil, append_assoc}
use Rattle.std.specs.List.{list_any}
use Rattle.station_io.specs.declared.files.TextRead.{TextRead}
use Rattle.station_io.specs.declared.files.TextRead.TheVariants.{Failed}
use Rattle.station_io.specs.declared.memory.MemFile.{MemFile}
use Rattle.station_io.specs.Files.{Shelf}
use Rattle.station_io.specs.Named.{file_named}
use Rattle.station_io.specs.Sink.{Outlet}

-- the files, the numbers of the calls that fail, and how many calls were made and failed
pub record Folder : Type 0 where
  pub files : List MemFile
  pub failing : List ℕ
  pub calls : ℕ
  pub faults : ℕ

-- a call of this number for this name fails
abbrev pub fails : Folder → ℕ → List ℕ → Bool
fails folder call name = list_any (λ n. n == call) folder.failing || is_none (file_named folder.files name)

-- One call was made for the name, and its number and the name alone decide whether it failed.
pub record IsOneFileCall (old : Folder) (name : List ℕ) (answer : TextRead) (new : Folder) : Type 0 where
  pub files : new.files ≡ old.files
  pub failing : new.failing ≡ old.failing
  pub calls : new.calls ≡ min (old.calls + 1) (2 ^ 64 - 1)
  pub failed : answer ≡ Failed ↔ IsTrue (fails old new.calls name)

-- what files in memory tell: all of it
abbrev pub folder_shelf : Shelf Folder
folder_shelf = record {
  held = λ folder name. file_named folder.files name;
  faults = λ folder. folder.faults;
  loaded = IsOneFileCall;
}

-- the bytes that a sink took, how many it takes, and how often it could not
pub record Bucket : Type 0 where
  pub bytes : List ℕ
  pub capacity : ℕ
  pub faults : ℕ

-- what a sink in memory tells: all of it
abbrev pub bucket_outlet : Outlet Bucket
bucket_outlet = record {
  taken = λ bucket. Some bucket.bytes;
  faults = λ bucket. bucket.faults;
  wrote = λ old bytes new. new.bytes ≡ old.bytes ++ bytes;
  wrote_none = λ bucket. sym (append-nil bucket.bytes);
  wrote_joins = λ s t u xs ys one two. two ∙ ap (λ (bytes : List ℕ). bytes ++ ys) one ∙ append_assoc s.bytes xs ys;
}

-- The causes of the steps that read, attach, call and write.
use Rattle.std.proofs.Common.{◌≡◌, ◌≢◌, ℕ, Bool, List, [], ◌∷◌, Ok, Err, inl, inr, refl, sym, ap, subst, ◌∙◌, arith}
use Rattle.std.specs.Global.{Vec}
use Rattle.std.specs.Prelude.{IfErr}
use Rattle.std.specs.declared.result.Result.{Result}
use Rattle.causes.specs.Cause.{Cause}
use Rattle.disk_model.specs.Calls.{attached}
use Rattle.disk_model.specs.Disk.{Attaches}
use Rattle.disk_model.specs.Medium.{Medium}
use Rattle.disk_model.specs.declared.disk.Disked.{Disked}
use Rattle.disk_model.specs.declared.disk.Disked.TheVariants as attach
use Rattle.serial_link.specs.Link.{Dials}
use Rattle.serial_link.specs.Traffic.{Traffic}
use Rattle.serial_link.specs.declared.link.Connected.{Connected}
use Rattle.serial_link.specs.declared.link.Connected.TheVariants as connected
use Rattle.serial_link.specs.declared.link.Side.{Side}
use Rattle.settings_file.specs.StationSettings.{StationSettings}
use Rattle.station_io.specs.Files.{Loads, Shelf}
use Rattle.station_io.specs.Sink.{Outlet}
use Rattle.station_io.specs.declared.files.TextRead.{TextRead}
use Rattle.station_io.specs.declared.files.TextRead.TheVariants as reading
use Rattle.run_output.specs.Calls.{attaches, by_call, by_disk, calls}
use Rattle.run_output.specs.Causes.{CountsFault, HasCauses, WentWell}
use Rattle.run_output.specs.Ended.{EndsBy, Lines, output_of}
use Rattle.run_output.specs.Output.{Output, no_memory}
use Rattle.run_output.specs.Outside.{Meanings, over_disk, over_files, over_link, over_out, over_second}
use Rattle.run_output.specs.Reading.{ReadAs, SaysSettings, reads, settles}
use Rattle.run_output.specs.Steps.{Behind, CommandStep, then}
use Rattle.run_output.specs.Streams.{streams}
use Rattle.run_output.specs.declared.outside.Outside.{Outside}
use Rattle.run_output.specs.declared.status.Status.{Status}
use Rattle.run_output.specs.declared.status.Status.TheVariants.{DiskFault, LinkFault, ReadFault, WriteFault}
use Rattle.run_output.proofs.Statuses.{has_status}
use Rattle.run_output.proofs.Causes.{Causes, none_well, same_cause, same_count, same_disks, still, then_causes}

-- By none of the four faults this answer ends the run.
pub record IsQuiet {A : Type 0} (result : Result A Output) : Type 0 where
  pub no_read : ¬ (EndsBy ReadFault result)
  pub no_write : ¬ (EndsBy WriteFault result)
  pub no_link : ¬ (EndsBy LinkFault result)
  pub no_disk : ¬ (EndsBy DiskFault result)

-- a quiet answer that changed nothing has causes
pub quiet_causes : {F K L D A : Type 0} (m : Meanings F K L D) (old new : Outside F K L D) (result : Result A Output)
    → IsQuiet result → new ≡ old → HasCauses m old result new
quiet_causes {F} {K} {L} {D} m old new result quiet same =
    subst (λ (w : Outside F K L D). HasCauses m old result w) (sym same)
    (still m old result quiet.no_read quiet.no_write quiet.no_link quiet.no_disk)

-- want of memory is quiet
pub memory_quiet : {A : Type 0} (result : Result A Output) → IfErr result (λ output. output ≡ no_memory) → IsQuiet result
memory_quiet (Ok a) none = record { no_read = λ is. is; no_write = λ is. is; no_link = λ is. is; no_disk = λ is. is }
memory_quiet (Err output) none = record { no_read = λ is. cc; no_write = λ is. cc; no_link = λ is. cc; no_disk = λ is. cc }

over_behind : {F K L D A B : Type 0} (next : A → CommandStep F B) (old new : Outside F K L D) (mid : F) (answer : Result A Output)
    (result : Result B Output) → Behind answer next mid result new.files → new ≡ record old { files = new.files }
    → Behind answer (λ a. over_files (next a)) (record old { files = mid }) result new
over_behind next old new mid (Ok a) result behind alone = (behind, alone)
over_behind {F} {K} {L} {D} next old new mid (Err output) result behind alone =
    (behind.0, alone ∙ ap (λ (f : F). record old { files = f }) behind.1)

-- two steps over the files are one over the files and then another
over_then : {F K L D A B : Type 0} (one : CommandStep F A) (next : A → CommandStep F B) (old new : Outside F K L D) (result : Result B Output)
    → over_files (then one next) old result new → then (over_files one) (λ a. over_files (next a)) old result new
over_then one next old new result did = record {
  answer = did.0.answer;
  mid = record old { files = did.0.mid };
  first = (did.0.first, refl);
  behind = over_behind next old new did.0.mid did.0.answer result did.0.behind did.1;
}

read_count : {F : Type 0} (shelf : Shelf F) (name : List ℕ) (old new : F) (answer : TextRead) (bytes : List ℕ) (result : Result (Vec ℕ) Output)
    → Loads shelf old name answer bytes new → ReadAs answer bytes result
    → CountsFault (shelf.faults old) (shelf.faults new) (EndsBy ReadFault result) (EndsBy WriteFault result)
read_count shelf name old new reading.Done bytes (Ok file) did given = record {
  cause = record { never_falls = did.cause.never_falls; rose = λ no. absurd no };
  still = λ _ _. did.still (λ e. cc);
}
read_count shelf name old new reading.Done bytes (Err output) did given = absurd given
read_count shelf name old new reading.Failed bytes result did given = record {
  cause = record { never_falls = did.cause.never_falls; rose = λ is. did.cause.rose refl };
  still = λ no _. absurd (no (rw given refl));
}
read_count shelf name old new other bytes result did given = record {
  cause = record { never_falls = did.cause.never_falls; rose = λ is. absurd (let e = rw given at is in cc) };
  still = λ _ _. did.still (λ e. cc);
}

read_others : (answer : TextRead) (bytes : List ℕ) (result : Result (Vec ℕ) Output) → ReadAs answer bytes result
    → ¬ (EndsBy WriteFault result) × ¬ (EndsBy LinkFault result) × ¬ (EndsBy DiskFault result)
read_others reading.Done bytes (Ok file) given = (λ is. is, λ is. is, λ is. is)
read_others reading.Done bytes (Err output) given = absurd given
read_others other bytes result given = rw given (λ is. cc, λ is. cc, λ is. cc)

-- a reading
pub reads_causes : {F K L D : Type 0} (m : Meanings F K L D) (name : List ℕ) → Causes m (over_files (reads m.shelf name))
reads_causes {F} {K} {L} {D} m name old new result did =
    let read = did.0 in
    let others = read_others read.answer read.bytes result read.given in
    subst (λ (w : Outside F K L D). HasCauses m old result w) (sym did.1) (record {
      files = read_count m.shelf name old.files new.files read.answer read.bytes result read.did read.given;
      sink = same_count (m.outlet.faults old.out) others.0;
      link = same_cause (m.traffic.faults old.link) others.1;
      disks = same_disks m.medium old.disk old.second others.2;
    })

-- a reading, and then what its text says, where an answer of that is quiet
pub says_causes : {F K L D A : Type 0} (m : Meanings F K L D) (name : List ℕ) (Says : List ℕ → Result A Output → Type 0)
    → ((text : List ℕ) (result : Result A Output) → Says text result → IsQuiet result)
    → Causes m (over_files (then (reads m.shelf name) (λ text old result new. Says text.items result × (new ≡ old))))
says_causes {F} {K} {L} {D} {A} m name Says quiet old new result did =
    let says = λ (text : Vec ℕ) (f : F) (r : Result A Output) (f' : F). Says text.items r × (f' ≡ f) in
    then_causes m (over_files (reads m.shelf name)) (λ (text : Vec ℕ). over_files (says text)) (reads_causes m name)
    (λ text mid w r says. quiet_causes m mid w r (quiet text.items r says.0.0) (says.1 ∙ ap (λ (f : F). record mid { files = f }) says.0.1))
    old new result (over_then (reads m.shelf name) says old new result did)

settings_quiet : (text : List ℕ) (result : Result StationSettings Output) → SaysSettings text result → IsQuiet result
settings_quiet text (Ok settings) says = record { no_read = λ no. no; no_write = λ no. no; no_link = λ no. no; no_disk = λ no. no }
settings_quiet text (Err output) (inl none) = record { no_read = λ is. cc; no_write = λ is. cc; no_link = λ is. cc; no_disk = λ is. cc }
settings_quiet text (Err output) (inr (fault, has, line)) =
    record { no_read = λ is. cc; no_write = λ is. cc; no_link = λ is. cc; no_disk = λ is. cc }

-- a reading of settings
pub settles_causes : {F K L D : Type 0} (m : Meanings F K L D) (name : List ℕ) → Causes m (over_files (settles m.shelf name))
settles_causes m name = says_causes m name SaysSettings settings_quiet

-- What a step over one disk alone says of its faults.
pub record DiskCauses {D A : Type 0} (medium : Medium D) (old : D) (result : Result A Output) (new : D) : Type 0 where
  pub fault : Cause (medium.faults old) (medium.faults new) (EndsBy DiskFault result)
  pub well : ¬ (EndsBy DiskFault result) → WentWell medium old new
  pub others : ¬ (EndsBy ReadFault result) × ¬ (EndsBy WriteFault result) × ¬ (EndsBy LinkFault result)

-- a step over a disk that has its causes has causes
pub by_disk_alone : {F K L D A : Type 0} (m : Meanings F K L D) (step : CommandStep D A)
    → ((old new : D) (result : Result A Output) → step old result new → DiskCauses m.medium old result new) → Causes m (over_disk step)
by_disk_alone {F} {K} {L} {D} {A} m step has old new result did =
    let is = has old.disk new.disk result did.0 in
    subst (λ (w : Outside F K L D). HasCauses m old result w) (sym did.1) (record {
      files = same_count (m.shelf.faults old.files) is.others.0;
      sink = same_count (m.outlet.faults old.out) is.others.1;
      link = same_cause (m.traffic.faults old.link) is.others.2;
      disks = record {
        rose = λ by. inl (is.fault.rose by);
        disk_never_falls = is.fault.never_falls;
        second_never_falls = omega arith;
        disk_well = λ disk _. is.well disk;
        second_well = λ _ _. none_well m.medium old.second;
      };
    })

pub by_second_alone : {F K L D A : Type 0} (m : Meanings F K L D) (step : CommandStep D A)
    → ((old new : D) (result : Result A Output) → step old result new → DiskCauses m.medium old result new) → Causes m (over_second step)
by_second_alone {F} {K} {L} {D} {A} m step has old new result did =
    let is = has old.second new.second result did.0 in
    subst (λ (w : Outside F K L D). HasCauses m old result w) (sym did.1) (record {
      files = same_count (m.shelf.faults old.files) is.others.0;
      sink = same_count (m.outlet.faults old.out) is.others.1;
      link = same_cause (m.traffic.faults old.link) is.others.2;
      disks = record {
        rose = λ by. inr (is.fault.rose by);
        disk_never_falls = omega arith;
        second_never_falls = is.fault.never_falls;
        disk_well = λ _ _. none_well m.medium old.disk;
        second_well = λ disk _. is.well disk;
      };
    })

attached_causes : {D : Type 0} (medium : Medium D) (name : List ℕ) (make : Bool) (old new : D) (answer : Disked) (result : Result (Unit {0}) Output)
    → Attaches medium old name make answer new → result ≡ by_disk answer → DiskCauses medium old result new
attached_causes {D} medium name make old new attach.Done result did given =
    subst (λ (r : Result (Unit {0}) Output). DiskCauses medium old r new) (sym given) (record {
      fault = record { never_falls = did.cause.never_falls; rose = λ no. absurd no };
      well = λ no. record { calls = attached name make attach.Done ∷ []; by = did.went; well = refl };
      others = (λ no. no, λ no. no, λ no. no);
    })
attached_causes {D} medium name make old new attach.Failed result did given =
    subst (λ (r : Result (Unit {0}) Output). DiskCauses medium old r new) (sym given) (record {
      fault = record { never_falls = did.cause.never_falls; rose = λ is. did.cause.rose refl };
      well = λ no. absurd (no refl);
      others = (λ no. cc, λ no. cc, λ no. cc);
    })

-- an attach, on the first disk or on the second
pub attaches_causes : {F K L D : Type 0} (m : Meanings F K L D) (name : List ℕ) (make : Bool) → Causes m (over_disk (attaches m.medium name make))
attaches_causes m name make = by_disk_alone m (attaches m.medium name make)
    (λ old new result did. attached_causes m.medium name make old new did.answer result did.did did.given)

pub second_attaches_causes : {F K L D : Type 0} (m : Meanings F K L D) (name : List ℕ) (make : Bool)
    → Causes m (over_second (attaches m.medium name make))
second_attaches_causes m name make = by_second_alone m (attaches m.medium name make)
    (λ old new result did. attached_causes m.medium name make old new did.answer result did.did did.given)

-- What a step over the link alone says of its faults.
pub record LinkCauses {L A : Type 0} (traffic : Traffic L) (old : L) (result : Result A Output) (new : L) : Type 0 where
  pub fault : Cause (traffic.faults old) (traffic.faults new) (EndsBy LinkFault result)
  pub others : ¬ (EndsBy ReadFault result) × ¬ (EndsBy WriteFault result) × ¬ (EndsBy DiskFault result)

-- a step over the link that has its causes has causes
pub by_link : {F K L D A : Type 0} (m : Meanings F K L D) (step : CommandStep L A)
    → ((old new : L) (result : Result A Output) → step old result new → LinkCauses m.traffic old result new) → Causes m (over_link step)
by_link {F} {K} {L} {D} {A} m step has old new result did =
    let is = has old.link new.link result did.0 in
    subst (λ (w : Outside F K L D). HasCauses m old result w) (sym did.1) (record {
      files = same_count (m.shelf.faults old.files) is.others.0;
      sink = same_count (m.outlet.faults old.out) is.others.1;
      link = is.fault;
      disks = same_disks m.medium old.disk old.second is.others.2;
    })

called_causes : {L : Type 0} (traffic : Traffic L) (side : Side) (address : List ℕ) (old new : L) (answer : Connected)
    (result : Result (Unit {0}) Output) → Dials traffic old side address answer new → result ≡ by_call answer → LinkCauses traffic old result new
called_causes {L} traffic side address old new connected.Done result did given =
    subst (λ (r : Result (Unit {0}) Output). LinkCauses traffic old r new) (sym given) (record {
      fault = record { never_falls = did.fault.never_falls; rose = λ no. absurd no };
      others = (λ no. no, λ no. no, λ no. no);
    })
called_causes {L} traffic side address old new connected.Failed result did given =
    subst (λ (r : Result (Unit {0}) Output). LinkCauses traffic old r new) (sym given) (record {
      fault = record { never_falls = did.fault.never_falls; rose = λ is. did.fault.rose refl };
      others = (λ no. cc, λ no. cc, λ no. cc);
    })

-- a call
pub calls_causes : {F K L D : Type 0} (m : Meanings F K L D) (side : Side) (address : List ℕ) → Causes m (over_link (calls m.traffic side address))
calls_causes m side address = by_link m (calls m.traffic side address)
    (λ old new result did. called_causes m.traffic side address old new did.answer result did.did did.given)

-- What a step over the sink alone says of its faults.
pub record SinkCauses {K A : Type 0} (outlet : Outlet K) (old : K) (result : Result A Output) (new : K) : Type 0 where
  pub cause : Cause (outlet.faults old) (outlet.faults new) (EndsBy WriteFault result)
  pub still : ¬ (EndsBy WriteFault result) → outlet.faults new ≡ outlet.faults old
  pub others : ¬ (EndsBy ReadFault result) × ¬ (EndsBy LinkFault result) × ¬ (EndsBy DiskFault result)

-- a step over the sink that has its causes has causes
pub by_sink : {F K L D A : Type 0} (m : Meanings F K L D) (step : CommandStep K A)
    → ((old new : K) (result : Result A Output) → step old result new → SinkCauses m.outlet old result new) → Causes m (over_out step)
by_sink {F} {K} {L} {D} {A} m step has old new result did =
    let is = has old.out new.out result did.0 in
    subst (λ (w : Outside F K L D). HasCauses m old result w) (sym did.1) (record {
      files = same_count (m.shelf.faults old.files) is.others.0;
      sink = record { cause = is.cause; still = λ no _. is.still no };
      link = same_cause (m.traffic.faults old.link) is.others.1;
      disks = same_disks m.medium old.disk old.second is.others.2;
    })

-- a step that writes an output ends as the output does, or by a write fault
ends_as_output : {K : Type 0} (outlet : Outlet K) (all : Output) (old new : K) (result : Result Lines Output) (status : Status)
    → streams outlet all old result new → all.status ≢ status → WriteFault ≢ status → ¬ (EndsBy status result)
ends_as_output outlet all old new result status did other fault is = elim did.written [
  | inl left ↦ other (sym left.status ∙ has_status status result (output_of result) refl is)
  | inr failed ↦ fault (ap (λ (r : Result Lines Output). (output_of r).status) (sym failed.0) ∙ has_status status result (output_of result) refl is)
]

-- a writing of an output that tells no fault of files, link or disk
pub streams_causes : {F K L D : Type 0} (m : Meanings F K L D) (all : Output) → all.status ≢ ReadFault → all.status ≢ LinkFault
    → all.status ≢ DiskFault → Causes m (over_out (streams m.outlet all))
streams_causes m all no_read no_link no_disk = by_sink m (streams m.outlet all) (λ old new result did.
    let never = ends_as_output m.outlet all old new result in
    record {
      cause = did.cause;
      still = did.still;
      others = (λ is. never ReadFault did no_read (λ e. cc) is, λ is. never LinkFault did no_link (λ e. cc) is, λ is. never DiskFault did no_disk (λ e. cc) is);
    })

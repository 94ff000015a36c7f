-- Why a file, a directory or an address is not available.
use Rattle.std.specs.Prelude.{ℕ, List, codes}
use Rattle.std.specs.declared.io.ErrorKind.{ErrorKind}
use Rattle.std.specs.declared.io.ErrorKind.TheVariants.{NotFound, PermissionDenied, IsADirectory, NotADirectory, Unsupported, FileTooLarge, InvalidData, InvalidInput, InvalidFilename, FilesystemLoop, AlreadyExists, StorageFull, ReadOnlyFilesystem, AddrInUse, AddrNotAvailable, ConnectionRefused}
use Rattle.sv_program.specs.declared.unavailable.Unavailable.{Unavailable}
use Rattle.sv_program.specs.declared.unavailable.Unavailable.TheVariants.{Missing, Denied, IsDirectory, NotDirectory, SpecialFile, Link, LinkLoop, TooLarge, NotUtf8, LongName, BadName, NamelessEntry, NotSocket, NoSpace, ReadOnly, AddressInUse, NoSuchAddress, NoListener, NoSignals, Other}

-- the reason that an error of the system gives, by the kind of the error
abbrev pub reason_of : ErrorKind → Unavailable
reason_of NotFound = Missing
reason_of PermissionDenied = Denied
reason_of IsADirectory = IsDirectory
reason_of NotADirectory = NotDirectory
reason_of Unsupported = SpecialFile
reason_of FileTooLarge = TooLarge
reason_of InvalidData = NotUtf8
reason_of InvalidInput = BadName
reason_of InvalidFilename = LongName
reason_of FilesystemLoop = LinkLoop
reason_of AlreadyExists = NotSocket
reason_of StorageFull = NoSpace
reason_of ReadOnlyFilesystem = ReadOnly
reason_of AddrInUse = AddressInUse
reason_of AddrNotAvailable = NoSuchAddress
reason_of ConnectionRefused = NoListener
reason_of kind = Other

-- the reason in words
abbrev pub reason_text : Unavailable → List ℕ
reason_text Missing = codes "no such file or directory"
reason_text Denied = codes "permission denied"
reason_text IsDirectory = codes "it is a directory"
reason_text NotDirectory = codes "it is not a directory"
reason_text SpecialFile = codes "it is neither a regular file nor a directory"
reason_text Link = codes "it is a symbolic link"
reason_text LinkLoop = codes "it leads through too many symbolic links"
reason_text TooLarge = codes "it has more than 134,217,728 bytes"
reason_text NotUtf8 = codes "it is not UTF-8"
reason_text LongName = codes "its name is too long"
reason_text BadName = codes "its name has a NUL"
reason_text NamelessEntry = codes "it has an entry whose name is not UTF-8"
reason_text NotSocket = codes "it exists and is no socket"
reason_text NoSpace = codes "the file system has no space"
reason_text ReadOnly = codes "the file system is read-only"
reason_text AddressInUse = codes "the address is in use"
reason_text NoSuchAddress = codes "this machine does not have the address"
reason_text NoListener = codes "no program listens there"
reason_text NoSignals = codes "no descriptor of signals is open there"
reason_text Other = codes "the system reports an error"

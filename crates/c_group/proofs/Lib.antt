mod Telling
